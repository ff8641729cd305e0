pub mod Acts
pub mod Codes
pub mod Costs
pub mod Fits
