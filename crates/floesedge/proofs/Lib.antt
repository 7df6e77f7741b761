mod Answers
pub mod Agreement
