pub mod Blocks
pub mod Bounds
pub mod Entries
pub mod Counts
pub mod Words
pub mod Runs
pub mod RunLists
pub mod Spots
