pub mod Public
pub mod Ready
pub mod Leasts
pub mod Rewriting
pub mod Fetching
pub mod Reread
pub mod Behind
