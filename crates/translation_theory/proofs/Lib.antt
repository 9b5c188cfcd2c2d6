pub mod NameLemmas
pub mod NotedLemmas
pub mod DiagnosticLemmas
pub mod TokenLemmas
