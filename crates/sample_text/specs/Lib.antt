pub mod Answering
pub mod Choosing
pub mod ClosingTexts
pub mod Closings
pub mod Wording
