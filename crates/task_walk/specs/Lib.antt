pub mod Tales
pub mod Comings
pub mod Plans
pub mod Parts
pub mod Walks
pub mod Goings
pub mod Deeds
pub mod Runs
