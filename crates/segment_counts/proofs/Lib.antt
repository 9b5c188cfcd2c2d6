pub mod TokenLemmas
pub mod CountLemmas
pub mod NodeLemmas
