pub mod Looks
pub mod Codes
pub mod Questions
pub mod Forgetting
pub mod Cells
