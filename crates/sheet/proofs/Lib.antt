pub mod Entries
pub mod StatementMeans
pub mod PlaceMeans
pub mod Numbers
pub mod Changes
pub mod Comments
pub mod Agreement
