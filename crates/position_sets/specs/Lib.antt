pub mod Begins
pub mod Follows
pub mod Joints
pub mod Sets
