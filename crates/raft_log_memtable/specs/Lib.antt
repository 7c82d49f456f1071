pub mod Stats
pub mod Room
pub mod Table
pub mod Reads
pub mod Files
pub mod Moves
pub mod Replays
