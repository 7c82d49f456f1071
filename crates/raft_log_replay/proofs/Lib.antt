mod Held
mod Chunks
mod Same
