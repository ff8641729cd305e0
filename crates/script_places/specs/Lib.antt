pub mod Answers
pub mod Lines
pub mod Points
pub mod RefusalWords
pub mod Shown
