-- the paper
pub mod Codes
