-- the paper
pub mod Units
pub mod Tests
pub mod Pairing
pub mod Inside
pub mod Members
pub mod Said
pub mod Sound
-- as code holds it
pub mod Layout
pub mod Places
pub mod InsidePlaces
pub mod Grouped
pub mod Contract
pub mod Working
pub mod InsideWorking
