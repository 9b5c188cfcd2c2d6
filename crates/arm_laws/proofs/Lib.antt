pub mod FallLemmas
pub mod PutLemmas
pub mod RunLemmas
pub mod ArmLemmas
pub mod OpeningLemmas
