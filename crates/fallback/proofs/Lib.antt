pub mod Fallbacks
pub mod KnownMetas
pub mod LengthNames
pub mod ObjectBounds
pub mod OwnAnswers
pub mod OwnNodes
pub mod OwnSoundness
pub mod TestMetas
