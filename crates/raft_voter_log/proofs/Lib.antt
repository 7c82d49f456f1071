pub mod Public
pub mod Alike
pub mod Arming
pub mod Causing
mod ClosedWalking
pub mod ClosedStores
pub mod Crashes
pub mod Entries
pub mod Finding
pub mod Forking
pub mod Homes
pub mod Lengths
pub mod Listed
pub mod Losses
pub mod Opening
pub mod OpenLemmas
pub mod Purging
mod Refusing
pub mod Resting
pub mod RunsPurging
pub mod Standing
pub mod States
mod UsedFiles
pub mod Walking
