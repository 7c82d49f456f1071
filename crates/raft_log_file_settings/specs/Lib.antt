pub mod Printing
pub mod Reading
pub mod Sanitized
pub mod Settings
pub mod Text
