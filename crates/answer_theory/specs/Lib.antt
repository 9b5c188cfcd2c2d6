pub mod Codes
pub mod Tasks
pub mod Sheets
pub mod SampleTexts
pub mod Work
pub mod Answers
pub mod Laws
