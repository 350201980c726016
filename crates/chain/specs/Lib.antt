pub mod Chain
pub mod Changing
pub mod Workers
