pub mod Did
pub mod Arms
