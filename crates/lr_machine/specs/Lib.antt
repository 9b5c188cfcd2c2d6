pub mod Cells
pub mod IsTables
pub mod Parts
pub mod Expected
