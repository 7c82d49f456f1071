mod Made
mod Files
mod Attempts
mod Lacking
mod UndoneLaws
pub mod Pieces
