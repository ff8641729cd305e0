pub mod Meanings
pub mod Merging
pub mod Sets
pub mod TestTrees
