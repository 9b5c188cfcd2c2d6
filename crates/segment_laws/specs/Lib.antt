pub mod Parsing
pub mod Laws
