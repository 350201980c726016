pub mod Call
pub mod History
pub mod Keys
