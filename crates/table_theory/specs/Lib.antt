pub mod Deeds
pub mod Conflicts
pub mod Clashes
pub mod Canonical
