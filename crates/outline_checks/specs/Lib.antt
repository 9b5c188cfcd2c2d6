pub mod Noted
pub mod PlaceSets
pub mod WordSets
pub mod Kinds
