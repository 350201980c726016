pub mod LawHistory
pub mod LawKeys
pub mod LawMembers
pub mod LawRising
mod LoopHistory
