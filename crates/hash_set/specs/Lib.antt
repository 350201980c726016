pub mod OneHistory
pub mod Lives
pub mod Calls
pub mod Alone
pub mod Tests
