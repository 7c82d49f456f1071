-- What a table shows of a group while its entries and values in Append are copied to Rewrite.
use Rattle.std.specs.Prelude.{◌≡◌, ◌+◌, ◌<◌, ◌≤◌, ◌⊎◌, ◌==◌, ℕ, true, false, List, Option, Some, None, if◌then◌else◌, length, take, drop}
use Rattle.raft_log_extents.specs.declared.place.Place.{Place}
use Rattle.raft_log_extents.specs.Counts.{passing}
use Rattle.raft_log_memtable_index.specs.Shown.{KeyValue, Shown}
use Rattle.raft_log_memtable_index.specs.Bridge.{moved_run}
use Rattle.raft_log_memtable_index.specs.Listing.{is_asked}

-- the value of a key after the copy: if it was in a file of Append up to the gate, it is in file `n` of Rewrite now;
-- any other value is unchanged
abbrev pub copied_value : ℕ → ℕ → Option KeyValue → Option KeyValue
copied_value gate n None = None
copied_value gate n (Some h) =
    if is_asked (Some gate) h then Some (record { bytes = h.bytes; appended = false; file = n }) else Some h

-- all values that the group has in Append, in files up to the gate, move to file `n` of Rewrite; the others are
-- unchanged
abbrev pub with_copied_values : ℕ → ℕ → Shown → Shown
with_copied_values gate n v = record v { held = λ k. copied_value gate n (v.held k) }

-- the first `count` entries that the group had in Append are in Rewrite now, and nothing else changed in any group
pub record Advances (group count : ℕ) (v w : ℕ → Shown) : Type 0 where
  pub others : (g : ℕ) → (group == g) ≡ false → w g ≡ v g
  pub places : List Place
  pub many : length places ≡ count
  pub moved : w group ≡ moved_run (v group) ((v group).first + (v group).rewritten) places

-- The values that the group had in Append, in files up to the gate, moved to one file of Rewrite. Nothing else changed
-- in any group.
pub record MovesKeys (group gate : ℕ) (v w : ℕ → Shown) : Type 0 where
  pub others : (g : ℕ) → (group == g) ≡ false → w g ≡ v g
  pub file : ℕ
  pub moved : w group ≡ with_copied_values gate file (v group)

-- The group's first entry in Append, if it has one, is in a file after the gate. So is each of its values in Append.
-- Since file numbers never fall as indexes rise, the group has nothing in files of Append up to the gate.
pub record IsRewrittenTo (gate : ℕ) (v : Shown) : Type 0 where
  pub entries : passing gate (drop v.rewritten v.places) ≡ 0
  pub values : (k : List ℕ) (h : KeyValue) → v.held k ≡ Some h → h.appended ≡ true → gate < h.file

-- the value is unchanged; or it was in Append, in a file up to the gate, and is in Rewrite now
abbrev pub ValueMayMove : ℕ → Option KeyValue → Option KeyValue → Type 0
ValueMayMove gate old new =
    (new ≡ old) ⊎ ((h : KeyValue) × (old ≡ Some h) × (is_asked (Some gate) h ≡ true)
    × ((n : ℕ) × (new ≡ Some (record { bytes = h.bytes; appended = false; file = n }))))

-- From `v` to `w`, a prefix of the group's entries in Append and some of its values in Append moved to Rewrite. There
-- may be none of either. What moved was in files up to the gate. Everything else is unchanged, also the tombstones that
-- the group owes.
pub record IsPartlyRewritten (gate : ℕ) (v w : Shown) : Type 0 where
  pub first : w.first ≡ v.first
  pub all : length w.places ≡ length v.places
  pub count : ℕ
  pub few : count ≤ passing gate (drop v.rewritten v.places)
  pub rewritten : w.rewritten ≡ v.rewritten + count
  pub front : take v.rewritten w.places ≡ take v.rewritten v.places
  pub behind : drop w.rewritten w.places ≡ drop w.rewritten v.places
  pub values : (k : List ℕ) → ValueMayMove gate (v.held k) (w.held k)
  pub cleaned : w.cleaned ≡ v.cleaned
  pub compacted : w.compacted ≡ v.compacted
  pub deleted : w.deleted ≡ v.deleted
  pub noted : w.noted ≡ v.noted
