pub mod EmptySizes
pub mod KnownNames
pub mod NameFacts
pub mod Openings
pub mod Relations
pub mod NameFaults
