pub mod parts
pub mod laws
pub mod keeps
