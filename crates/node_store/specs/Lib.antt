pub mod Packing
pub mod Chunks
pub mod Links
pub mod Flat
pub mod Kids
pub mod Slots
pub mod Walking
pub mod Frames
