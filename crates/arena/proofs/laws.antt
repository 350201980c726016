pub mod Owners
pub mod States
pub mod Hands
pub mod Ranges
pub mod Views
pub mod Inside
pub mod Apart
pub mod Smallest
