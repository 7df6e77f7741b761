pub mod Lows
mod Nans
mod Parts
pub mod Agreement
