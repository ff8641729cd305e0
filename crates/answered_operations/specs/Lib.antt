pub mod Additions
pub mod Operations
