pub mod Sharing
pub mod Lives
