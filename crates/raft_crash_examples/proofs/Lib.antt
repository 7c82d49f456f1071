mod Both
mod Closed
mod Copied
mod Foreign
mod Kept
mod Lived
mod Purged
mod Said
pub mod Served
mod Steps
mod Valued
