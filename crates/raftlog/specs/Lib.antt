pub mod Batches
pub mod Playing
pub mod Same
