-- The invariant that connects a raft group's whereabouts with the records of both queues. Whereabouts say in which
-- queue each entry and value is stored, and which tombstones are owed to Rewrite. `m` is the content of a raft group,
-- and `t` its whereabouts.
use Rattle.std.specs.Prelude.{◌≡◌, ℕ, ◌<◌, ◌≤◌, ◌⊎◌, true, false, List, Option, Some, None, unwrap_or}
use Rattle.raft_log_model_laws.specs.Meaning.{Slot, Content}
use Rattle.raft_log_model_laws.specs.Meaning.Slot.{Index, Key}
use Rattle.raft_log_machine_laws.specs.Survival.{IsSpoken}
use Rattle.raft_log_machine_laws.specs.Whereabouts.{Whereabouts, top}

-- What the records do to each slot of a raft group:
-- - `lowest`: all records of Rewrite that a recovery may read;
-- - `rewrite`, `append`: the records of Rewrite's live range, and of Append's.
pub record SaysOfSlot (E V : Type 0) : Type 0 where
  pub lowest : Slot → Option (Option (Content E V))
  pub rewrite : Slot → Option (Option (Content E V))
  pub append : Slot → Option (Option (Content E V))

-- Without Append's records, the slot has what the map has there. This is so after all records of Rewrite that a
-- recovery may read, and also after those of the live range alone.
abbrev pub IsRightInRewrite : {E V : Type 0} → SaysOfSlot E V → (Slot → Option (Content E V)) → Slot → Type 0
IsRightInRewrite said m s = (unwrap_or (said.lowest s) None ≡ m s) × (unwrap_or (said.rewrite s) None ≡ m s)

-- One of these is true of index `i`:
-- - Rewrite alone is right about it;
-- - a Clean is owed;
-- - a Compact is owed that will remove the index: `i` is below the first entry, or no entry is in Rewrite;
-- - Append has entries, the first of them at or below `i`, so their run overrides Rewrite at `i`.
abbrev pub IsSettledIndex : {E V : Type 0} → SaysOfSlot E V → (Slot → Option (Content E V)) → Whereabouts → ℕ
    → Type 0
IsSettledIndex said m t i =
    IsRightInRewrite said m (Index i)
    ⊎ ((t.cleaned ≡ true)
    ⊎ (((t.compacted ≡ true) × ((i < t.first) ⊎ (t.first ≡ t.split)))
    ⊎ ((t.split ≤ i) × (t.split < t.end))))

-- One of these is true of key `k`:
-- - Rewrite alone is right about it;
-- - a Clean is owed;
-- - a Del of it is owed;
-- - its value is in Append.
abbrev pub IsSettledKey : {E V : Type 0} → SaysOfSlot E V → (Slot → Option (Content E V)) → Whereabouts → List ℕ
    → Type 0
IsSettledKey said m t k =
    IsRightInRewrite said m (Key k) ⊎ ((t.cleaned ≡ true) ⊎ ((t.deleted k ≡ true) ⊎ (t.appended k ≡ true)))

-- Whereabouts `t` are correct for a raft group with content `m`, if its records do `said` to each slot. The group's
-- entries are exactly those from `first` to below `end`. Each entry and value is in the live range of the queue in
-- which `t` places it. For each index and key, Rewrite alone is right, a tombstone is owed, or Append overrides
-- Rewrite.
pub record AreCorrect {E V : Type 0} (said : SaysOfSlot E V) (m : Slot → Option (Content E V)) (t : Whereabouts)
    : Type 0 where
  pub in_order : (t.first ≤ t.split) × (t.split ≤ t.end) × (t.end ≤ top)
  pub below : (i : ℕ) → i < t.first → m (Index i) ≡ None
  pub above : (i : ℕ) → t.end ≤ i → m (Index i) ≡ None
  pub solid : (i : ℕ) → t.first ≤ i → i < t.end → (entry : Content E V) × (m (Index i) ≡ Some entry)
  -- entries that are stored in Rewrite are in its live range
  pub rewritten : (i : ℕ) → t.first ≤ i → i < t.split → said.rewrite (Index i) ≡ Some (m (Index i))
  -- if entries are stored in Append, its live range touches each of their indexes and all above
  pub newer : (i : ℕ) → t.split ≤ i → t.split < t.end → IsSpoken (said.append (Index i))
  pub key_newer : (k : List ℕ) → t.appended k ≡ true → IsSpoken (said.append (Key k))
  pub key_older : (k : List ℕ) → t.appended k ≡ false
      → (m (Key k) ≡ None) ⊎ (said.rewrite (Key k) ≡ Some (m (Key k)))
  -- while a Clean is owed, nothing of the raft group is stored in Rewrite
  pub after_clean : t.cleaned ≡ true
      → (t.first ≡ t.split) × ((k : List ℕ) → t.appended k ≡ false → m (Key k) ≡ None)
  pub after_delete : (k : List ℕ) → t.deleted k ≡ true → t.appended k ≡ false → m (Key k) ≡ None
  pub index : (i : ℕ) → i < top → IsSettledIndex said m t i
  pub key : (k : List ℕ) → IsSettledKey said m t k
