pub mod CountLemmas
pub mod DistinctLemmas
pub mod KeptLemmas
pub mod FillLemmas
pub mod SupplyLemmas
pub mod SpineLemmas
