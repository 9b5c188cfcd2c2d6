pub mod Places
pub mod KnownWords
pub mod Passing
pub mod KeptSheets
pub mod Grammars
