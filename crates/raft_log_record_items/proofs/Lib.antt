pub mod Public
pub mod Reading
pub mod Entries
pub mod Spelled
pub mod Each
pub mod Places
pub mod ItemPlaces
