pub mod LexerStops
pub mod Lexemes
pub mod Refusals
pub mod Shallow
pub mod TextFronts
pub mod Words
