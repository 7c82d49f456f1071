pub mod Public
pub mod Headers
pub mod Names
