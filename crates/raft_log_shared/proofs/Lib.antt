pub mod Moves
pub mod Finding
pub mod Leading
pub mod Ending
pub mod Durable
