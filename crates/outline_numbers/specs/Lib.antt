pub mod Vocabularies
pub mod Symbols
pub mod Numbered
