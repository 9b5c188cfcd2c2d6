pub mod Tallies
pub mod Markings
pub mod Pending
