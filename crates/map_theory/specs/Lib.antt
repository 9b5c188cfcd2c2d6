pub mod Maps
pub mod Relations
pub mod Agreements
pub mod Laws
