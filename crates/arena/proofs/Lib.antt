pub mod laws
pub mod keeps
