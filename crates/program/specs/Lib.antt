-- the paper
pub mod Program
-- beyond the paper
pub mod Roster
-- as code holds it
pub mod Written
pub mod Contract
