pub mod Nodes
pub mod Ranges
pub mod Calls
