pub mod Sources
pub mod Pending
