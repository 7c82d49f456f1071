pub mod Kept
mod Saving
mod Written
mod Dumped
mod Whole
