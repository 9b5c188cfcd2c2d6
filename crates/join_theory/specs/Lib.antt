pub mod Faults
pub mod Floors
pub mod Composing
