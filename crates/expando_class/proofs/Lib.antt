pub mod Texts
pub mod Index
