pub mod Public
pub mod AlikeLemmas
mod Alone
pub mod Believed
pub mod Beside
pub mod Explaining
pub mod FromFiles
pub mod Going
mod InTurn
pub mod Joining
pub mod Leading
mod Marking
mod Moving
pub mod Parted
pub mod Rest
pub mod Rounding
pub mod Serves
pub mod Told
pub mod Turning
pub mod Whole
