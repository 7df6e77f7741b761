-- the paper
pub mod Shape
pub mod Fields
pub mod Record
pub mod Proper
-- as code holds it
pub mod Decode
pub mod Contract
