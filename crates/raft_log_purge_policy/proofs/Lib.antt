pub mod Public
pub mod Listing
pub mod Surveying
