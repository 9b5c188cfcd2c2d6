pub mod ClosingLemmas
pub mod ClosingTextLemmas
pub mod AlternativeLemmas
pub mod SamplingLemmas
pub mod WordLemmas
