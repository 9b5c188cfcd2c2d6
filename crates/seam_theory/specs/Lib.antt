pub mod Same
pub mod Seams
pub mod Moves
