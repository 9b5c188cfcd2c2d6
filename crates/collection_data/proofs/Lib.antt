pub mod EntryLemmas
pub mod SameEntries
pub mod RowLemmas
pub mod MadeCollection
pub mod TableLaws
pub mod TokenLemmas
