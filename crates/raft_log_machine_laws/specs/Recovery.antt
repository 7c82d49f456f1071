-- The whereabouts that an open makes for each raft group from the files that it read.
use Rattle.std.specs.Prelude.{◌≡◌, ℕ, ◌+◌, ◌<◌, ◌≤◌, ◌⊎◌, nat_lt, Bool, true, false, ◌||◌, if◌then◌else◌, bytes_eq, List, [], ◌∷◌, length, Option, Some, None, is_some}
use Rattle.raft_log_model_laws.specs.Item.{Item}
use Rattle.raft_log_model_laws.specs.Item.Item.{Compact, Del}
use Rattle.raft_log_model_laws.specs.Meaning.{Slot, Content, says}
use Rattle.raft_log_model_laws.specs.Meaning.Slot.{Index, Key}
use Rattle.raft_log_model_laws.specs.Holes.{has_clean}
use Rattle.raft_log_model_laws.specs.Table.{Table}
use Rattle.raft_log_model_laws.specs.Summary.{Summary, directory_table}
use Rattle.raft_log_machine_laws.specs.Whereabouts.{Whereabouts, top}

-- one of the items is a Compact
abbrev pub has_compact : {E V : Type 0} → List (Item E V) → Bool
has_compact [] = false
has_compact (Compact c ∷ xs) = true
has_compact (x ∷ xs) = has_compact xs

-- one of the items is a Del of key `k`
abbrev pub has_del : {E V : Type 0} → List ℕ → List (Item E V) → Bool
has_del k [] = false
has_del k (Del l ∷ xs) = bytes_eq l k || has_del k xs
has_del k (x ∷ xs) = has_del k xs

-- Which tombstones are owed after an open read these items of Append. A Clean is owed exactly if the items have one. If
-- the items have no Clean, each of their Compacts and Dels is owed. A Del is owed only if the items have it. A Compact
-- may be owed although the items have none. That does no harm.
pub record HasMarks {E V : Type 0} (append : List (Item E V)) (t : Whereabouts) : Type 0 where
  pub cleaned : t.cleaned ≡ has_clean append
  pub compacted : has_clean append ≡ false → has_compact append ≡ true → t.compacted ≡ true
  pub deleted : (k : List ℕ) → has_clean append ≡ false → has_del k append ≡ true → t.deleted k ≡ true
  pub was_deleted : (k : List ℕ) → t.deleted k ≡ true → has_del k append ≡ true

-- Whereabouts `t` are right for a raft group with content `m` if an open read the items `append` from Append. `t`
-- places in Append what these items leave, and all other content in Rewrite. The tombstones for Append's deletions are
-- owed, as `HasMarks` says.
pub record IsRecovered {E V : Type 0} (m : Slot → Option (Content E V)) (append : List (Item E V))
    (t : Whereabouts) : Type 0 where
  pub in_order : (t.first ≤ t.split) × (t.split ≤ t.end) × (t.end ≤ top)
  pub below : (i : ℕ) → i < t.first → m (Index i) ≡ None
  pub above : (i : ℕ) → t.end ≤ i → m (Index i) ≡ None
  pub rewritten : (i : ℕ) → t.first ≤ i → i < t.split
      → (says (Index i) append ≡ None) × ((entry : Content E V) × (m (Index i) ≡ Some entry))
  pub newer : (i : ℕ) → t.split ≤ i → i < t.end
      → (entry : Content E V) × (says (Index i) append ≡ Some (Some entry))
  pub key_newer : (k : List ℕ) → t.appended k ≡ true
      → (value : Content E V) × (says (Key k) append ≡ Some (Some value))
  pub key_older : (k : List ℕ) → t.appended k ≡ false → (m (Key k) ≡ None) ⊎ (says (Key k) append ≡ None)
  pub marks : HasMarks append t

-- Whereabouts `t` are made from Rewrite's table and the summary of Append. `t` places in Append what the summary's
-- table has, and all other content in Rewrite.
pub record IsReadOff {E V : Type 0} (rewrite : Table E V) (append : Summary E V) (t : Whereabouts)
    : Type 0 where
  pub first : t.first ≡ (directory_table rewrite append).first
  pub end : t.end ≡ (directory_table rewrite append).first + length (directory_table rewrite append).entries
  pub split : t.split ≡ (if nat_lt 0 (length append.table.entries) then append.table.first else t.end)
  pub appended : (k : List ℕ) → t.appended k ≡ is_some (append.table.values k)

-- Whereabouts `t` and `u` place entries and keys in the same queues. If there are no entries, their indexes may differ.
-- They may also differ in an owed Compact and in owed Dels.
pub record StandAlike (t u : Whereabouts) : Type 0 where
  pub entries : t.first < t.end → (u.first ≡ t.first) × (u.split ≡ t.split) × (u.end ≡ t.end)
  pub no_entries : t.first ≡ t.end → u.first ≡ u.end
  pub appended : (k : List ℕ) → u.appended k ≡ t.appended k
  pub cleaned : u.cleaned ≡ t.cleaned
