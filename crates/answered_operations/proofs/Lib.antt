pub mod Additions
pub mod Crossing
