pub mod AnyFiles
pub mod Calls
pub mod Faults
pub mod Instance
