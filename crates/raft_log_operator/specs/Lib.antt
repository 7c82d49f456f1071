pub mod Tasks
pub mod Listing
pub mod Sound
pub mod Purging
