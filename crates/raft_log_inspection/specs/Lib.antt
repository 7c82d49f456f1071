pub mod Intact
pub mod Steps
