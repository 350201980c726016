pub mod Head
pub mod Shown
pub mod Content
pub mod Spots
pub mod FrozenWord
pub mod Held
pub mod Predecessor
pub mod Members
