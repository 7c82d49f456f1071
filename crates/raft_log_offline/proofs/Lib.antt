pub mod Public
mod Holes
mod Ends
mod Keeping
mod Groups
mod Telling
mod Whole
mod Unchanged
pub mod Adds
pub mod Making
pub mod CopyingLemmas
pub mod Lasts
pub mod Names
pub mod CopyingAll
pub mod Permitting
pub mod Finding
