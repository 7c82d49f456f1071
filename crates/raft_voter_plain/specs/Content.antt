-- The content of a plain file, and what a crash leaves of it.
use Rattle.std.specs.Prelude.{ℕ, List, [], ◌++◌}

-- the bytes that are synced, and the bytes that were written after them
pub record PlainContent : Type 0 where
  pub synced : List ℕ
  pub unsynced : List ℕ

-- a file without bytes
abbrev pub empty_file : PlainContent
empty_file = record { synced = []; unsynced = [] }

-- what a crash leaves of this file: its synced bytes
abbrev pub after_crash : PlainContent → PlainContent
after_crash file = record { synced = file.synced; unsynced = [] }

-- what a read of this file returns: all its bytes, synced or not
abbrev pub whole : PlainContent → List ℕ
whole file = file.synced ++ file.unsynced

-- this file after a sync
abbrev pub all_synced : PlainContent → PlainContent
all_synced file = record { synced = whole file; unsynced = [] }
