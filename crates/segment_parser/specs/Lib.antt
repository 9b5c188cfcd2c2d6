pub mod Working
pub mod Standing
pub mod Settling
pub mod Opening
pub mod Numbers
pub mod Entering
pub mod Retracing
