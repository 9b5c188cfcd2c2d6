pub mod EndLemmas
pub mod StepLemmas
pub mod PartLemmas
pub mod MadeLemmas
