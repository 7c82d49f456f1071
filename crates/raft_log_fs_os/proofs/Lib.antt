pub mod Public
pub mod Sharing
pub mod Filling
pub mod Resting
