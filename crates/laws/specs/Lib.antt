-- the paper
pub mod Text
pub mod Lists
pub mod Runs
pub mod Counts
pub mod Rising
-- as code holds it
pub mod Places
pub mod Put
-- what theorems are stated with
pub mod Every
pub mod Pairs
pub mod Agree
