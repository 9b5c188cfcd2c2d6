pub mod RetraceLemmas
