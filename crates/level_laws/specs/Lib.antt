pub mod Levels
pub mod Growing
pub mod Laws
