pub mod SheetTokens
pub mod RunAnswers
pub mod Laws
