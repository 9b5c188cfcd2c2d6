pub mod Classes
pub mod Parts
pub mod Within
pub mod Spreads
