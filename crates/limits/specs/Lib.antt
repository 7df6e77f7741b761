-- the paper
pub mod Limits
pub mod Before
