-- the paper
pub mod Lines
pub mod Reading
pub mod Reports
pub mod Joined
pub mod Faults
pub mod Spots
pub mod Later
pub mod InPlace
-- as code holds it
pub mod Next
pub mod Codes
pub mod Ends
pub mod Ahead
pub mod Walks
pub mod Contract
