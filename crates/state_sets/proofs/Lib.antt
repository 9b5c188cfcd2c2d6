pub mod PartsLemmas
pub mod ClassLemmas
pub mod SpreadLemmas
pub mod ArrowLemmas
pub mod MakingLemmas
pub mod AgreeLemmas
