pub mod CanonicalLemmas
pub mod FitLemmas
pub mod SettleLemmas
