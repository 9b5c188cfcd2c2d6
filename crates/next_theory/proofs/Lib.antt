pub mod NextLemmas
pub mod GoingLemmas
