pub mod SheetLemmas
pub mod InputLemmas
pub mod WorkLemmas
pub mod AnswerLemmas
