pub mod Public
pub mod KeptBlocks
pub mod Entries
mod Bounds
mod Signed
pub mod WholeBlocks
mod Parts
pub mod Keeping
pub mod Staying
pub mod Reading
pub mod Taking
mod Laid
pub mod Lasting
mod Anywhere
