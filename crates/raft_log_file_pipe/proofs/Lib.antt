pub mod Public
pub mod Lists
pub mod Naming
pub mod Raising
pub mod Turning
mod Doing
mod WritingLast
pub mod Adding
pub mod Contexts
pub mod Dropping
pub mod TakingUp
pub mod SettingAside
pub mod Fractions
pub mod Finding
pub mod Placing
