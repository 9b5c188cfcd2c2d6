pub mod VocabularyLemmas
pub mod WordLemmas
pub mod SheetLemmas
