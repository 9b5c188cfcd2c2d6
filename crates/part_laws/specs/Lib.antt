pub mod Alike
pub mod InAll
pub mod Laws
