-- the paper
pub mod Look
pub mod Grammar
pub mod Meaning
-- as code holds it
pub mod Parser
pub mod Codes
pub mod Contract
