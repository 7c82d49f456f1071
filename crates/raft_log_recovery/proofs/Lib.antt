pub mod Cuts
pub mod Endings
mod ForReading
pub mod Syncs
mod Formats
mod Small
mod Opened
mod Pieces
mod Made
mod Dropped
mod Last
