pub mod Cuttings
pub mod Laws
