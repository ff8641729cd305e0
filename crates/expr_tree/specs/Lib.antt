pub mod InOrder
pub mod Meanings
pub mod Texts
pub mod Trees
