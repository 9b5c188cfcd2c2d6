pub mod LevelLemmas
pub mod GrowingLemmas
