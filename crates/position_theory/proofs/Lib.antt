pub mod BoundLemmas
pub mod LayerLemmas
pub mod LiteralLemmas
pub mod MatchLemmas
pub mod PartLemmas
pub mod StateLemmas
pub mod StepLemmas
pub mod SpellingLemmas
