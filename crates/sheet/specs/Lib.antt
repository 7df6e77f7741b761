-- the paper
pub mod Sheet
pub mod Reader
pub mod StatementMeans
pub mod PlaceMeans
pub mod Numbers
-- as code holds it
pub mod Layout
pub mod Contract
