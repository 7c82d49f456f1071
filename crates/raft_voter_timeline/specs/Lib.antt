pub mod Escape
pub mod Marks
pub mod Writes
pub mod Picture
pub mod Drawing
