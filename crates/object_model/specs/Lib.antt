pub mod Accesses
pub mod Journals
pub mod Members
pub mod Plain
pub mod Shown
pub mod Steps
