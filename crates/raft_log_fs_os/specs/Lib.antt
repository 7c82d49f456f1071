pub mod Noting
pub mod Tracing
pub mod Loading
