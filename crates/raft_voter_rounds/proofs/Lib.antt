pub mod Public
pub mod Within
pub mod Noted
pub mod Requests
pub mod Kept
