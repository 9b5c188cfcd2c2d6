pub mod CutLemmas
pub mod PieceLemmas
pub mod ReportLemmas
pub mod AskedLemmas
