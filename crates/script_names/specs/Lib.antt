pub mod NamePlaces
pub mod Names
pub mod Statements
pub mod Expressions
pub mod Scripts
