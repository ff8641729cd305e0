pub mod Headline
pub mod Loads
pub mod Refusals
pub mod Rendering
