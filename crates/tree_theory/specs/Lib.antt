pub mod Stores
pub mod Walks
