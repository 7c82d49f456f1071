pub mod Thresholds
pub mod Watermarks
pub mod Behind
pub mod Rules
pub mod Picking
pub mod Surveying
