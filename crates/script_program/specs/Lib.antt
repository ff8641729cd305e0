pub mod Built
pub mod Names
pub mod Plans
pub mod Programs
pub mod Refusals
pub mod Scripts
