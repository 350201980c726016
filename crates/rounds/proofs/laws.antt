pub mod Ordered
pub mod Halting
pub mod Ending
