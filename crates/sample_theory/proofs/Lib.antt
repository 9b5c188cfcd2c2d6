pub mod WordLemmas
pub mod ClosingLemmas
pub mod ChoiceLemmas
pub mod SampleLemmas
pub mod LineLemmas
