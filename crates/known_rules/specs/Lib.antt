pub mod Adoptions
pub mod Bounds
pub mod Guarding
pub mod Knowledge
pub mod Props
pub mod Publishing
pub mod Sums
pub mod Writes
