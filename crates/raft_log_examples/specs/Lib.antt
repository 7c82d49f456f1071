pub mod Appending
pub mod Saving
pub mod Storing
