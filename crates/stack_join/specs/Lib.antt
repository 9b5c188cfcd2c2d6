pub mod Joining
pub mod Landing
pub mod Putting
