pub mod Appending
pub mod Meaning
pub mod Orders
pub mod Plain
mod WorkedMeanings
