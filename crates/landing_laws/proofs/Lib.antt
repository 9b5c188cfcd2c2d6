pub mod CarryLemmas
pub mod WideLemmas
pub mod BehindLemmas
