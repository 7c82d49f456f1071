pub mod Run
pub mod Items
pub mod Reading
pub mod Writing
pub mod Placed
pub mod Message
