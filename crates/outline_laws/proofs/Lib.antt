pub mod CompareLemmas
pub mod StopLemmas
pub mod ApartLemmas
pub mod AnswerLemmas
