pub mod ReadLemmas
pub mod OnlyLemmas
pub mod ErrorLemmas
pub mod WholeLemmas
