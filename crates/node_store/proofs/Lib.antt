pub mod FlatLemmas
pub mod LinkLemmas
pub mod ChunkLemmas
pub mod SlotLemmas
pub mod ChunkListLemmas
pub mod StoreLemmas
pub mod FrameLemmas
pub mod WalkingLemmas
