pub mod RefutedLemmas
pub mod FindingLemmas
pub mod FirstLemmas
