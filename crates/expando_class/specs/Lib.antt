pub mod Listing
pub mod Shown
pub mod Class
pub mod Known
pub mod Pass
