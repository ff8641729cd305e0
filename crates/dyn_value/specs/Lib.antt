pub mod Conversions
pub mod Kinds
pub mod Operations
pub mod Operators
pub mod Outcomes
pub mod Proper
pub mod Texts
