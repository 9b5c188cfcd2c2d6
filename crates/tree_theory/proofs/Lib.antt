pub mod ShownLemmas
pub mod WalkLemmas
