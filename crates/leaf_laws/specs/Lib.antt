pub mod Leaves
pub mod Steps
pub mod Laws
pub mod Closing
pub mod OpenPieces
