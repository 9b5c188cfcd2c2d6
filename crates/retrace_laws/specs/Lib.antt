pub mod Retraced
pub mod Laws
