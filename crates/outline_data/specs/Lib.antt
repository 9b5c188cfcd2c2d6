pub mod AlternativeParts
pub mod GroupParts
pub mod Parts
pub mod Keys
