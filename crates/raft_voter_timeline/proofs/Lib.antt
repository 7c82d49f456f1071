pub mod Escaping
pub mod Gaining
pub mod Drawn
pub mod Writing
