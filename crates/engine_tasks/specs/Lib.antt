pub mod Jobs
pub mod Lawful
pub mod Passes
pub mod TaskRuns
pub mod Worlds
