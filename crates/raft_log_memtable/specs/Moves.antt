-- Copies of entries and values into Rewrite, and the Compact that a table owes to Rewrite (a tombstone). The gate of a
-- purge is the last file of Append whose content it may copy.
use Rattle.std.specs.Prelude.{ℕ, ◌+◌, ◌-◌, ◌≤◌, max, min, Bool, false, not, ◌||◌, List, [], ◌∷◌, ◌++◌, length, take, drop, Option, Some, None, if◌then◌else◌, nat_le, nat_lt}
use Rattle.raft_log_model_laws.specs.Item.{Item}
use Rattle.raft_log_model_laws.specs.Item.Item.{Run}
use Rattle.raft_log_machine_laws.specs.Whereabouts.{top}
use Rattle.raft_log_extents.specs.declared.place.Place.{Place}
use Rattle.raft_log_extents.specs.Counts.{passing}
use Rattle.raft_log_memtable_index.specs.Shown.{KeyValue, Shown, with_held}
use Rattle.raft_log_memtable_index.specs.Bridge.{moved_run}

-- The table has all entries of the run. The run starts at an entry in Rewrite or right after Rewrite's last entry, and
-- doesn't end before Rewrite's last entry. An empty run and other items qualify too.
abbrev pub RunStandsIn : Shown → Item Place (List ℕ) → Type 0
RunStandsIn v (Run f []) = Unit {0}
RunStandsIn v (Run f (p ∷ ps)) =
    (v.first ≤ f) × (f ≤ v.first + v.rewritten) × (v.first + v.rewritten ≤ f + length (p ∷ ps))
    × (f + length (p ∷ ps) ≤ v.first + length v.places)
RunStandsIn v x = Unit {0}

-- the table after the entries of a run were copied to the run's places in Rewrite; other items change nothing
abbrev pub moved_by : Shown → Item Place (List ℕ) → Shown
moved_by v (Run f []) = v
moved_by v (Run f (p ∷ ps)) = moved_run v f (p ∷ ps)
moved_by v x = v

-- The index of the Compact that the table owes, if any. It is the table's first index if some entries are in Rewrite,
-- else 2 ^ 64 - 1.
abbrev pub owed_compact : Shown → Option ℕ
owed_compact v = if v.compacted then Some (if nat_lt 0 v.rewritten then v.first else top) else None

-- How many of the entries at these places in Append may be copied to Rewrite. With a gate, these are the entries before
-- the first one in a file past the gate. Without a gate, there are none.
abbrev pub gated : Option ℕ → List Place → ℕ
gated None ps = 0
gated (Some gate) ps = passing gate ps

-- How many of `count` entries, from position `d` on, may be copied: those in Rewrite, and then as many of Append as
-- the gate allows.
abbrev pub movable : Shown → Option ℕ → ℕ → ℕ → ℕ
movable v gate d count =
    min count (v.rewritten - d) + gated gate (take (count - (v.rewritten - d)) (drop v.rewritten v.places))

-- the table after `ps` replaced as many places from position `d` on; the new places and all before them are in Rewrite
abbrev pub rewritten_at : Shown → ℕ → List Place → Shown
rewritten_at v d ps = record v {
  places = take d v.places ++ (ps ++ drop (d + length ps) v.places);
  rewritten = max v.rewritten (d + length ps);
}

-- The table after copies of entries were written to Rewrite. Entries that the table still has, and that may be copied
-- (`movable`), move to the new places. If the copies leave a gap after the table's entries in Rewrite, none move.
abbrev pub rewritten_by : Option ℕ → Shown → Item Place (List ℕ) → Shown
rewritten_by gate v (Run f ps) =
    if nat_lt v.rewritten (f - v.first) then v
    else rewritten_at v (f - v.first)
    (take (movable v gate (f - v.first) (length (drop (v.first - f) ps))) (drop (v.first - f) ps))
rewritten_by gate v x = v

-- Whether a value may move to a new file of Rewrite. A value in Rewrite always may. A value in Append may if there is a
-- gate, and its file isn't past the gate.
abbrev pub may_move : Option ℕ → KeyValue → Bool
may_move None h = not h.appended
may_move (Some gate) h = not h.appended || nat_le h.file gate

-- the value, moved to file `n` of Rewrite if it may move (`may_move`), else unchanged
abbrev pub rewritten_to : Option ℕ → ℕ → Option KeyValue → Option KeyValue
rewritten_to gate n None = None
rewritten_to gate n (Some h) =
    if may_move gate h then Some (record { bytes = h.bytes; appended = false; file = n }) else Some h

-- the table after a copy of key `k` was written to file `n` of Rewrite: the key's value moves there if it may
abbrev pub key_rewritten : Option ℕ → Shown → List ℕ → ℕ → Shown
key_rewritten gate v k n = record v { held = with_held v.held k (rewritten_to gate n (v.held k)) }
