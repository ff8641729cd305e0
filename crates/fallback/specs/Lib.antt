pub mod Answers
pub mod Own
