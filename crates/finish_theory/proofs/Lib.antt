pub mod EndingLemmas
pub mod FinishLemmas
