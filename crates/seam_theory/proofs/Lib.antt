pub mod SameLemmas
pub mod SeamLemmas
pub mod MoveLemmas
