pub mod FinishedTrees
