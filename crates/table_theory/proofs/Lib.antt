pub mod OrderLemmas
pub mod ConflictLemmas
pub mod ClashLemmas
pub mod CanonicalLemmas
pub mod StepLemmas
