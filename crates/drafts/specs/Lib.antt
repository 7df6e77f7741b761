-- the paper
pub mod Tree
pub mod Items
-- as code holds it
pub mod Kinds
pub mod Drafts
pub mod Places
pub mod Contract
