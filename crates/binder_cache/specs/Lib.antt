pub mod Known
pub mod Row
pub mod Rows
pub mod Pass
