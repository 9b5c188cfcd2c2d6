pub mod Literals
pub mod Positions
pub mod States
pub mod Bounds
