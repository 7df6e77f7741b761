-- the paper
pub mod Order
-- as code holds it
pub mod Greedy
pub mod Table
pub mod Marks
pub mod Contract
