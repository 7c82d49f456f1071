pub mod Calls
pub mod Laws
pub mod Examples
