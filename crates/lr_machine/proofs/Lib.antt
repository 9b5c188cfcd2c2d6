pub mod CellLemmas
pub mod ExpectedLemmas
