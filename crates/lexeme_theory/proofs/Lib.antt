pub mod RunLemmas
pub mod BeginLemmas
pub mod SpellLemmas
pub mod FoundLemmas
pub mod EndLemmas
pub mod ReadingLemmas
pub mod LineLemmas
pub mod PrintedLemmas
