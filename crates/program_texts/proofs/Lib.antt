pub mod TableListLemmas
pub mod NameListLemmas
pub mod DiagnosticLemmas
