pub mod Entries
pub mod Collection
pub mod Rows
