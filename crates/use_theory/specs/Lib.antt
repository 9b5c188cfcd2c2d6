pub mod Counts
pub mod Distinct
pub mod Fills
pub mod Spines
pub mod Kept
