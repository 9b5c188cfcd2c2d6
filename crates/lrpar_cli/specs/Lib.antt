pub mod Endings
pub mod Stops
pub mod Inputs
pub mod Laws
pub mod Segments
pub mod Translating
pub mod Reporting
pub mod Samples
