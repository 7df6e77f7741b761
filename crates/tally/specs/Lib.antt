-- as code holds it
pub mod Counted
pub mod Contract
