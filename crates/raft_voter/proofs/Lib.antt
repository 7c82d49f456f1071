pub mod Public
pub mod Places
pub mod Joining
pub mod Following
pub mod VoterSteps
pub mod RunLaws
pub mod Appends
pub mod Sameness
pub mod Standing
pub mod Repeating
mod Owning
mod Commits
pub mod Numbering
mod Reading
mod Restored
pub mod Keeping
