pub mod Carried
pub mod Fronts
pub mod Left
mod Loaded
mod Rising
pub mod Settling
pub mod Verdicts
