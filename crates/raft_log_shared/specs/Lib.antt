pub mod History
pub mod Names
pub mod Calls
pub mod Requests
pub mod Receipts
pub mod Durable
