pub mod Joining
pub mod Meeting
pub mod Joint
