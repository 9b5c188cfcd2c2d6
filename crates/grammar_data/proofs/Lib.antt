pub mod TokenSetLemmas
pub mod WordLemmas
