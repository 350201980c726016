pub mod Published
pub mod Named
pub mod Held
pub mod Replaced
pub mod Members
pub mod Filled
pub mod Frozen
pub mod Headed
