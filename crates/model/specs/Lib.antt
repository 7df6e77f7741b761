-- the paper
pub mod Definitions
pub mod Faults
pub mod Text
pub mod Orders
-- as code holds it
pub mod Places
pub mod Working
pub mod Plan
pub mod Contract
