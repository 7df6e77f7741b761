-- as code holds it
pub mod Contract
