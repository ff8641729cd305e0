pub mod Calls
pub mod Limits
pub mod Numbering
pub mod Sites
