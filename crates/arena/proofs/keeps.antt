pub mod Load
pub mod View
pub mod Fixed
pub mod Draw
pub mod Write
pub mod Publish
pub mod Cell
