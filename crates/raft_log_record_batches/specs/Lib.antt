pub mod AtomicGroup
pub mod Batch
pub mod Bounds
pub mod Entries
pub mod EntriesFrom
pub mod Key
pub mod Laws
pub mod Places
