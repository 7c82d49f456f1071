-- The fields of a table, what callers see of it, and what it has reserved.
use Rattle.std.specs.Prelude.{◌≡◌, ℕ, ◌⊎◌, Bool, false, List, length, Option, None}
use Rattle.raft_log_record_base.specs.declared.errors.Error.{Error}
use Rattle.raft_log_record_base.specs.declared.errors.Error.TheVariants as errors
use Rattle.raft_log_model_laws.specs.Item.{Item}
use Rattle.raft_log_model_laws.specs.Holes.{Window}
use Rattle.raft_log_memtable_index.specs.declared.group_files.GroupFiles.{GroupFiles}
use Rattle.raft_log_memtable_index.specs.Shown.{Shown, MayFollow}
use Rattle.raft_log_memtable_index.specs.Replayed.{Replayed}
use Rattle.raft_log_memtable.specs.declared.ends.Ends.{Ends}
use Rattle.raft_log_extents.specs.Entries.{PlaceList}
use Rattle.raft_log_memtable_index.specs.declared.key_map.KeySlot.{KeySlot}
use Rattle.raft_log_memtable_index.specs.Keys.{keys_of, no_keys}
use Rattle.raft_log_memtable.specs.Room.{Promise}

-- The fields of a table:
-- - `ahead`: the range of its indexes after the items that it is prepared for
-- - `low`, `high`: in a replay, only entries from `low` on and below `high` stay of those that were read before this
--   table
-- - all others: what callers see (`shown`); `places` and `keys` also have what is reserved
pub record Raw : Type 0 where
  pub first : ℕ
  pub places : PlaceList
  pub rewritten : ℕ
  pub ahead : Ends
  pub keys : List (List ℕ × KeySlot)
  pub cleaned : Bool
  pub compacted : Bool
  pub noted : Option GroupFiles
  pub low : ℕ
  pub high : Option ℕ

-- the two ends as a range of the log model
abbrev pub window_of : Ends → Window
window_of e = record { first = e.first; end = e.end }

-- what callers see of a table: everything but its reservations
abbrev pub shown : Raw → Shown
shown t = record {
  first = t.first;
  places = t.places.items;
  rewritten = t.rewritten;
  held = (keys_of t.keys).values;
  deleted = (keys_of t.keys).deleted;
  cleaned = t.cleaned;
  compacted = t.compacted;
  noted = t.noted;
}

-- the number of runs in which a table stores the places of its entries
abbrev pub runs_of : Raw → ℕ
runs_of t = t.places.runs

-- the result of the replay that made this table
abbrev pub replay_of : Raw → Replayed
replay_of t = record { table = shown t; low = t.low; high = t.high }

-- in a replay, both tables leave the same of the entries that were read before them
abbrev pub IsBoundAs : Raw → Raw → Type 0
IsBoundAs t u = (u.low ≡ t.low) × (u.high ≡ t.high)

-- what a table has reserved
abbrev pub promise : Raw → Promise
promise t = record {
  wanted = t.places.wanted;
  moves = t.places.moves;
  ends = window_of t.ahead;
  has = (keys_of t.keys).has;
}

-- Why a run isn't applied to entries with the range `w`. The error is `Hole` if and only if the run leaves a hole or
-- has an index of 2 ^ 64 - 1 or more. Otherwise it is `Memory`.
abbrev pub RunRefused : {E V : Type 0} → Window → Item E V → Error → Type 0
RunRefused w x error =
    ((error ≡ errors.Hole) × (MayFollow w x → ⊥)) ⊎ ((error ≡ errors.Memory) × MayFollow w x)

-- the table has no entries, no values, no slots and no owed Dels, and its first index is 0
abbrev pub StandsEmpty : Raw → Type 0
StandsEmpty t =
    (t.first ≡ 0) × (t.rewritten ≡ 0) × (length t.places.items ≡ 0) × (keys_of t.keys ≡ no_keys)

-- the table owes neither a Clean nor a Compact, and has no recorded files of atomic groups
abbrev pub OwesNothing : Raw → Type 0
OwesNothing t = (t.cleaned ≡ false) × (t.compacted ≡ false) × (t.noted ≡ None)

-- nothing is reserved for places or moves, and the reserved range is empty, as in a new table
abbrev pub PromisesNothing : Raw → Type 0
PromisesNothing t =
    (t.ahead.first ≡ 0) × (t.ahead.end ≡ 0) × (t.places.wanted ≡ 0) × (t.places.moves ≡ 0)
