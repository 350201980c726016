pub mod lists
pub mod tables
pub mod seen
pub mod Limits
pub mod changes
pub mod ledgers
