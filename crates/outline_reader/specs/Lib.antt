pub mod Progress
pub mod Refusals
pub mod Faults
