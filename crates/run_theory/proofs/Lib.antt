pub mod TokenLemmas
pub mod ExpectedLemmas
pub mod RunLemmas
