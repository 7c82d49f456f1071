pub mod Public
pub mod Calls
pub mod Turns
pub mod CountDown
pub mod Denied
pub mod Once
pub mod Space
