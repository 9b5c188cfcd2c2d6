pub mod RangeLemmas
pub mod TokenLemmas
pub mod LawLemmas
