pub mod Claims
pub mod ClassMaps
pub mod MemberAnswers
pub mod Soundness
pub mod States
pub mod Tests
