pub mod Explained
pub mod Kept
pub mod Logs
pub mod Model
pub mod Questions
pub mod Reads
pub mod Run
pub mod Steps
