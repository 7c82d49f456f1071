pub mod Reading
pub mod Groups
pub mod Entries
pub mod Listing
pub mod Numbers
pub mod Terms
