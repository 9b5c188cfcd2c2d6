pub mod FinishedLemmas
