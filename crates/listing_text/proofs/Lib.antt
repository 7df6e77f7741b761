mod Figures
mod Puts
mod Fields
mod Reach
mod Back
mod Fair
mod ListedMeans
pub mod Agreement
