pub mod Events
pub mod Stores
