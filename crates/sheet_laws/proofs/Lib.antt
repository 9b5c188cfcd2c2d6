pub mod LexemeSizes
pub mod SizeLemmas
pub mod SheetLemmas
pub mod ReadLemmas
pub mod LineFaults
pub mod FaultLemmas
pub mod AnswerLemmas
