pub mod ClassLists
pub mod Serving
pub mod TestedOperands
pub mod Truncated
