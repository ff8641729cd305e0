pub mod Claimed
pub mod Fitting
pub mod Rules
pub mod Texts
