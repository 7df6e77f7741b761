-- the paper
pub mod Bytes
pub mod Number
pub mod Values
pub mod Token
pub mod Symbol
pub mod Row
pub mod Seen
-- as code holds it
pub mod Kinds
pub mod Held
pub mod Names
pub mod Capped
pub mod Closure
pub mod Steps
pub mod Skips
pub mod Contract
