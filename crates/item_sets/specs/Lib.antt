pub mod Spots
pub mod Closing
pub mod Layout
pub mod Successors
pub mod Found
pub mod Searching
