pub mod Rule
pub mod Places
pub mod Passes
pub mod Chosen
pub mod Settled
