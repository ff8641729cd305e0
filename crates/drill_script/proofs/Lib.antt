pub mod Appending
pub mod Further
pub mod Growing
mod WorkedDraws
