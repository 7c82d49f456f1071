pub mod Public
mod Apart
pub mod Bareness
pub mod Deciding
pub mod Indexes
pub mod Ordered
pub mod Pairs
mod Planning
pub mod Steps
mod Unrolling
