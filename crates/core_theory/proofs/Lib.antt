pub mod TreeLemmas
pub mod LiveLemmas
pub mod CoverLemmas
pub mod RunLemmas
