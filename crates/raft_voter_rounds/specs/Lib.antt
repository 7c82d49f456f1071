pub mod Journal
pub mod Handing
pub mod Noting
pub mod Proving
pub mod Taking
