pub mod MoveLemmas
pub mod PartLemmas
