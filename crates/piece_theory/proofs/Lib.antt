pub mod ResultLemmas
pub mod FloorLemmas
pub mod StoreLemmas
