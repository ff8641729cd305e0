mod Additions
pub mod BesideRuns
pub mod Closings
mod Counts
mod Crossing
mod Entries
mod Finishes
pub mod SerialRuns
mod Reports
mod Tales
