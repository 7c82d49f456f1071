pub mod Public
pub mod FileSteps
pub mod Standing
pub mod Keeping
pub mod Bridging
pub mod Beginning
pub mod Reopening
pub mod SettingAside
pub mod Writing
pub mod Calls
pub mod Rotating
mod BegunFiles
pub mod TakenUp
