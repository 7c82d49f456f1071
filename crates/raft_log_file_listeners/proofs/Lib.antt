pub mod Public
pub mod Held
pub mod Hook
pub mod Least
mod Tellings
