pub mod Filling
pub mod Resizing
pub mod Alone
