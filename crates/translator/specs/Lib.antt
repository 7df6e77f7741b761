-- the paper
pub mod Verdict
pub mod Refusals
pub mod Renumbered
pub mod Names
pub mod Rules
pub mod Larger
pub mod Contract
-- what theorems say of a caller's answer
pub mod Replies
-- as code holds it
pub mod Working
