-- Records that follow one another in a file.
use Rattle.std.specs.Prelude.{◌≡◌, ℕ, List, ◌++◌, Option}
use Rattle.raft_log_record_items.specs.declared.item.LogItem.{LogItem}
use Rattle.raft_log_record_frames.specs.Record.{IsRecord}

-- `bytes` are a record and then `rest`; the record is signed with `signature`, or unsigned if that is none
abbrev pub RecordBefore : Option ℕ → List ℕ → List ℕ → Type 0
RecordBefore signature bytes rest =
    (first : List ℕ) × (items : List LogItem) × (entries : List ℕ) × IsRecord signature first items entries
    × (bytes ≡ first ++ rest)
