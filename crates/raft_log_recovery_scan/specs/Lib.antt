pub mod Chunks
pub mod Names
pub mod Directories
pub mod Found
pub mod Runs
pub mod Opened
pub mod Scanned
pub mod Metadata
