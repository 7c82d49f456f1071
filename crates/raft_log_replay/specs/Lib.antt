pub mod Machines
pub mod Sources
pub mod Segments
