pub mod Spelled
pub mod Decimals
pub mod Steps
pub mod Looked
