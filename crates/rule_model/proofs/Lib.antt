pub mod MemberPlaces
pub mod MemberSoundness
pub mod MemberSteps
pub mod Roots
pub mod UnderMaps
