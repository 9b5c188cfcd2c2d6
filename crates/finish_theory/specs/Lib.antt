pub mod Endings
pub mod Finishing
