pub mod Pieces
pub mod Applies
pub mod WellMade
pub mod Lists
pub mod Laws
