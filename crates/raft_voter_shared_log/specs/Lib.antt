pub mod Opening
pub mod GoingOn
pub mod Joining
pub mod Disks
pub mod LogOpenings
pub mod Purging
pub mod ListedVoters
