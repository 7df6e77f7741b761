pub mod FieldBytes
pub mod FieldParts
pub mod Decoding
pub mod ReadBack
pub mod LeftRecords
pub mod Agreement
