pub mod AlongLemmas
pub mod ContextLemmas
