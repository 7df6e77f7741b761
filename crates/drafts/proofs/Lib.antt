pub mod Postfix
pub mod Agreement
