pub mod ShortestWords
pub mod WordNumbers
pub mod ClosingRules
pub mod Choices
pub mod Samples
