pub mod BareLemmas
