pub mod History
pub mod Names
