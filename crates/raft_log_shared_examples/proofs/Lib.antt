mod Kept
mod Lived
