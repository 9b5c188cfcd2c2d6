pub mod RunLemmas
pub mod ParseLemmas
