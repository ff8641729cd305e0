pub mod Arguments
pub mod Binders
pub mod Functions
