-- Runs of entries: each index is one more than the index before.
use Rattle.std.specs.Prelude.{◌≡◌, ℕ, ◌+◌, ◌<◌, ◌^◌, List, [], ◌∷◌, length, None}
use Rattle.raft_log_record_items.specs.declared.entry.EntryIndex.{EntryIndex}
use Rattle.raft_log_record_items.specs.declared.compression.CompressionType.TheVariants as kinds

-- the indexes rise by one, starting at `i`, and each entry's length is below 2 ^ 32
abbrev pub FollowsFrom : ℕ → List EntryIndex → Type 0
FollowsFrom i [] = Unit {0}
FollowsFrom i (e ∷ es) = (e.index ≡ i) × (e.entry_len < 2 ^ 32) × FollowsFrom (i + 1) es

-- the indexes rise by one and are all below 2 ^ 64 - 1, and each entry's length is below 2 ^ 32
abbrev pub IsRun : List EntryIndex → Type 0
IsRun [] = Unit {0}
IsRun (e ∷ es) = FollowsFrom e.index (e ∷ es) × (e.index + length (e ∷ es) < 2 ^ 64)

-- an entry with this index and length that isn't stored yet: it has no block, and offset 0
abbrev pub unplaced_entry : ℕ → ℕ → EntryIndex
unplaced_entry index len =
    record { index = index; entries = None; compression_type = kinds.None; entry_offset = 0; entry_len = len }

-- the index and the length of entry `e`, without its block and offset
abbrev pub unplaced : EntryIndex → EntryIndex
unplaced e = unplaced_entry e.index e.entry_len
