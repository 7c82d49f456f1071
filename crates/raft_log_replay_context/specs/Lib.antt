pub mod Records
pub mod OpenGroups
pub mod Pieces
pub mod Noting
pub mod Context
pub mod Written
pub mod Batches
pub mod Opened
