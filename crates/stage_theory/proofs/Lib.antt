pub mod DraftLemmas
pub mod RunLemmas
pub mod StageLemmas
pub mod ReadLemmas
