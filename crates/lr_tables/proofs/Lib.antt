pub mod EntryDeedLemmas
pub mod LeastLemmas
pub mod PutLemmas
pub mod RowLemmas
