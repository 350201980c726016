pub mod Owners
pub mod Hands
pub mod States
pub mod LaidOut
pub mod Moves
pub mod Laws
pub mod Smallest
