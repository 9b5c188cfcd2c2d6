pub mod CutLemmas
mod FaultLemmas
