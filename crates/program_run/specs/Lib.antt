pub mod TaskRuns
