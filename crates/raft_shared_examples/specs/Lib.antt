pub mod Seats
pub mod Sharing
pub mod Lives
