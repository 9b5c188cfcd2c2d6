pub mod EntryDeeds
pub mod Filling
pub mod Clashing
pub mod Building
