pub mod Described
pub mod Handing
pub mod MemberBounds
pub mod Nexts
pub mod OperandMetas
pub mod OperandTests
pub mod Targets
