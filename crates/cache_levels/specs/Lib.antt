pub mod Levels
pub mod LonePasses
pub mod Memories
pub mod Props
pub mod RuleShapes
pub mod Runs
pub mod Shapes
