pub mod Laws
pub mod Lines
pub mod Scan
pub mod Scannable
