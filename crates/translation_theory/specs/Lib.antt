pub mod TokenTexts
pub mod Marks
pub mod DeclaredNames
pub mod Translations
pub mod Diagnostics
