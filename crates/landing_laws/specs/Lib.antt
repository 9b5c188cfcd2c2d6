pub mod Carrying
pub mod Behind
