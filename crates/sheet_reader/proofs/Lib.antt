pub mod LayoutLemmas
pub mod MadeLemmas
pub mod PartLemmas
pub mod RankLemmas
pub mod ReadLemmas
pub mod SheetLemmas
pub mod TextLemmas
