mod Tables
mod Put
mod Hearing
mod Entries
mod Pieces
mod Scans
mod ModelCalls
mod ModelReads
