pub mod Fit
pub mod Keeping
pub mod Listing
pub mod OwnClasses
pub mod Plainly
pub mod Selecting
pub mod SumsBound
pub mod WritesBound
