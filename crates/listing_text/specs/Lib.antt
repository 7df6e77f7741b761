-- the paper
pub mod Listing
pub mod Contract
-- as code holds it
pub mod Written
