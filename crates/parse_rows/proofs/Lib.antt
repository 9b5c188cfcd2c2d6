pub mod WalkableLemmas
