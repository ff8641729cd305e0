pub mod Keeps
pub mod Words
pub mod Tries
