pub mod FileLemmas
pub mod GrammarLemmas
pub mod ReadingLemmas
