pub mod LookLemmas
pub mod GrownLemmas
pub mod QuestionLemmas
pub mod CellLemmas
pub mod ForgettingLemmas
