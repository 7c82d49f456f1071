pub mod Candidates
pub mod Changes
pub mod Contents
pub mod Folds
pub mod Judging
pub mod Scanned
pub mod Views
