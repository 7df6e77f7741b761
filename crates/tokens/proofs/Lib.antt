mod Prefixes
mod Decimals
mod Numbers
mod Cuts
pub mod Words
pub mod Values
pub mod Keys
pub mod Sound
pub mod Rows
pub mod Local
pub mod RowPlaces
pub mod Skips
mod Steps
pub mod Answers
pub mod Holding
pub mod Agreement
pub mod TokenValues
