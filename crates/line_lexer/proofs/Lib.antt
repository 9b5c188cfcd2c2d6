pub mod LexLemmas
pub mod LinesLemmas
