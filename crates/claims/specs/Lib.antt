pub mod Places
pub mod Views
pub mod Divided
pub mod Moves
pub mod Tokens
pub mod Gathering
pub mod Modeled
