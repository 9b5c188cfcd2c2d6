pub mod EntryLemmas
pub mod MarkingLemmas
pub mod PendingLemmas
pub mod WayLemmas
pub mod PlaceLemmas
