pub mod GoingOn
pub mod Joining
pub mod Keeping
pub mod ListedVoters
pub mod LogOpenings
