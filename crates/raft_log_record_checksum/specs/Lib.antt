pub mod Checksum
pub mod Folding
pub mod Hash
