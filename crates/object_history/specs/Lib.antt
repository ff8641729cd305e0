pub mod Entries
pub mod Histories
pub mod Operands
pub mod Readies
pub mod RowProps
pub mod Rows
