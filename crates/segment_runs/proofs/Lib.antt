pub mod TokenLemmas
pub mod JoinedLemmas
pub mod RunLemmas
