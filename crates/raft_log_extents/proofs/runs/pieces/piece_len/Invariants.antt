use Rattle.std.proofs.Common.{◌≡◌, ◌-◌, ◌≤◌, drop, map, slice_index_or, suc, take}
use Rattle.raft_log_record_items.specs.declared.entry.EntryIndex.{EntryIndex}
use Rattle.raft_log_extents.specs.Blocks.{AreOnePiece, gaps, pieces}
use Rattle.raft_log_extents.specs.Entries.{place_of}
use Rattle.raft_log_extents.proofs.runs.pieces.piece_len.Given as goal

abbrev pub invariant-loop-i : goal.invariant-loop-i
invariant-loop-i l =
    AreOnePiece (map place_of (take l.i l.entries))
    × ((d : EntryIndex) → pieces (map place_of l.entries) ≡ suc (gaps (place_of (slice_index_or l.entries (l.i - 1) d)) (map place_of (drop l.i l.entries))))
    × (1 ≤ l.i)
