pub mod Starts
pub mod Halts
pub mod Closings
pub mod Modeled
