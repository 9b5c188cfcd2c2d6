pub mod RunLemmas
pub mod StackLemmas
