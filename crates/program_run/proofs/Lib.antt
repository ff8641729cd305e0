pub mod Alike
pub mod Ready
pub mod TaskRuns
