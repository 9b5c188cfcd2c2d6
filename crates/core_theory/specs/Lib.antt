pub mod Tree
pub mod Core
pub mod Events
pub mod Runs
pub mod Laws
