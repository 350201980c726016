pub mod Above
pub mod Calls
pub mod Histories
pub mod Change
pub mod Each
pub mod Places
pub mod Rising
