pub mod Keys
pub mod LeastFiles
pub mod Listing
pub mod Shown
pub mod Bridge
pub mod Noted
pub mod Replayed
pub mod Bounds
