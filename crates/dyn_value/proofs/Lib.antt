pub mod Distinct
pub mod Encoding
mod Numbers
mod ProperAnswers
mod TextAsInt
