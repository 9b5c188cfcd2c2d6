pub mod LineLemmas
pub mod BelongingLemmas
pub mod SameTexts
