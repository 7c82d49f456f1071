pub mod Standing
pub mod Failing
pub mod Receipts
pub mod Clashing
pub mod Settling
pub mod Openings
pub mod Purging
pub mod Looking
