pub mod Least
pub mod Active
pub mod Hearing
