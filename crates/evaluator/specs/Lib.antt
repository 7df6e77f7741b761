-- the paper
pub mod Machine
pub mod Judge
pub mod Evaluate
pub mod Contract
-- as code holds it
pub mod Sound
pub mod Stack
pub mod Marks
pub mod Finding
pub mod Reached
pub mod States
