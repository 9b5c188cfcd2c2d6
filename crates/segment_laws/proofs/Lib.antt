pub mod KidLemmas
pub mod StepLemmas
pub mod EndLemmas
