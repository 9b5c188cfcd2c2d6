pub mod BoundLemmas
pub mod SegmentLemmas
