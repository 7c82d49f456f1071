pub mod Content
pub mod Records
pub mod Beginnings
pub mod Damage
pub mod Store
