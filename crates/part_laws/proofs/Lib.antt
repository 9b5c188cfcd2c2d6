pub mod AlikeLemmas
pub mod SomeLemmas
