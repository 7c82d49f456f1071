pub mod Device
pub mod Following
pub mod Directory
pub mod Space
pub mod Undoing
pub mod WritingBack
