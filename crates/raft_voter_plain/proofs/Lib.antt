pub mod Damage
pub mod Ranges
pub mod Records
pub mod Refusals
pub mod Stops
pub mod Worlds
