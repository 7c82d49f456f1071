-- The whereabouts of a raft group: in which queue each of its entries and values is stored, and which tombstones are
-- owed. A tombstone is owed if Append has a deletion that Rewrite hasn't got yet. Also how writes change whereabouts.
use Rattle.std.specs.Prelude.{◌≡◌, ℕ, ◌+◌, ◌-◌, ◌^◌, ◌<◌, ◌≤◌, ◌⊎◌, min, max, Bool, true, false, if◌then◌else◌, bytes_eq, List, [], ◌∷◌, length, Option, Some, None, option_map, slice_get}
use Rattle.raft_log_model_laws.specs.Item.{Item}
use Rattle.raft_log_model_laws.specs.Item.Item.{Run, Clean, Compact, Put, Del}
use Rattle.raft_log_model_laws.specs.Meaning.{Slot, Content, says}
use Rattle.raft_log_model_laws.specs.Meaning.Slot.{Index, Key}
use Rattle.raft_log_model_laws.specs.Meaning.Content.{Entry, Value}

-- a number above every index of an entry, so that a Compact with this index removes all entries
unfoldable pub top : ℕ
top = 2 ^ 64 - 1

-- In which queue the content of a raft group is stored, and which tombstones are owed:
-- - the entries from index `first` to below `split` are in Rewrite, and those from `split` to below `end` in Append;
-- - the values of the keys `appended` are in Append, and those of all other keys in Rewrite;
-- - the owed tombstones are a Clean (`cleaned`), a Compact (`compacted`), and a Del of each key of `deleted`.
pub record Whereabouts : Type 0 where
  pub first : ℕ
  pub split : ℕ
  pub end : ℕ
  pub appended : List ℕ → Bool
  pub cleaned : Bool
  pub compacted : Bool
  pub deleted : List ℕ → Bool

-- the set of keys `test`, except that key `key` is in it exactly if `answer` is true
abbrev pub with_key : (List ℕ → Bool) → List ℕ → Bool → List ℕ → Bool
with_key test key answer k = if bytes_eq key k then answer else test k

-- a run that starts at `f` replaces all entries: no entry is below `f`, or there are no entries
abbrev pub Alone : Whereabouts → ℕ → Type 0
Alone t f = (f ≤ t.first) ⊎ (t.first ≡ t.end)

-- a run that starts at `f` continues the entries: `f` is above the first index, and at most the index after the last
-- entry
abbrev pub GoesOn : Whereabouts → ℕ → Type 0
GoesOn t f = (t.first < f) × (f ≤ t.end)

-- the index of the first entry after a Compact with index `c`, or the index after the last if no entry is left
abbrev pub compacted_first : Whereabouts → ℕ → ℕ
compacted_first t c = max t.first (min c t.end)

-- Append takes the item, and the whereabouts are `t` before and `u` after it. A Del may also make the engine owe a
-- Compact, which does no harm.
abbrev pub AppendTakes : {E V : Type 0} → Whereabouts → Item E V → Whereabouts → Type 0
AppendTakes t (Run f []) u = u ≡ t
AppendTakes t (Run f (e ∷ es)) u =
    (f + length (e ∷ es) ≤ top)
    × ((Alone t f × (u ≡ record t { first = f; split = f; end = f + length (e ∷ es) }))
    ⊎ (GoesOn t f × (u ≡ record t { split = min t.split f; end = f + length (e ∷ es) })))
AppendTakes t Clean u = (u.first ≡ u.end) × (u.split ≡ u.end) × (u.end ≤ top) × ((k : List ℕ)
    → u.appended k ≡ false) × (u.cleaned ≡ true)
AppendTakes t (Compact c) u =
    u ≡ record t { first = compacted_first t c; split = max t.split (compacted_first t c); compacted = true }
AppendTakes t (Put k v) u = u ≡ record t { appended = with_key t.appended k true }
AppendTakes t (Del k) u =
    (changed : Bool) × (t.compacted ≡ true → changed ≡ true)
    × (u ≡ record t {
      appended = with_key t.appended k false;
      compacted = changed;
      deleted = with_key t.deleted k true;
    })

-- Append takes these items, one after another, and the whereabouts are `t` before and `u` after them
abbrev pub GrowsBy : {E V : Type 0} → Whereabouts → List (Item E V) → Whereabouts → Type 0
GrowsBy t [] u = u ≡ t
GrowsBy t (x ∷ xs) u = (next : Whereabouts) × AppendTakes t x next × GrowsBy next xs u

-- in content `m`, the indexes from `f` on have the entries `es`, one after another
abbrev pub RunStands : {E V : Type 0} → (Slot → Option (Content E V)) → ℕ → List E → Type 0
RunStands m f es = (i : ℕ) → f ≤ i → i < f + length es → option_map Entry (slice_get es (i - f)) ≡ m (Index i)

-- by these whereabouts, no entry or value of a raft group with content `m` is stored in Rewrite
abbrev pub NothingRewritten : {E V : Type 0} → (Slot → Option (Content E V)) → Whereabouts → Type 0
NothingRewritten m t = (t.first ≡ t.split) × ((k : List ℕ) → t.appended k ≡ false → m (Key k) ≡ None)

-- Rewrite may take the item, and the whereabouts are `t` before and `u` after it. The raft group has the content `m`.
-- Each item has its condition:
-- - A run has the entries of `m`. It starts at an index in Rewrite or at Append's first one, and ends at Rewrite's last
--   index or later. If it goes on into Append, no Clean and no Compact is owed.
-- - A Clean is owed, or nothing of the group is stored in Rewrite.
-- - A Compact has the first index if there are entries in Rewrite, otherwise `top`.
-- - A Put has the key's value. If that value is stored in Append, neither a Clean nor a Del of the key is owed.
-- - A Del is owed, or no value of the key is stored in Rewrite.
-- An engine may write a tombstone twice, so it may count tombstones as owed until they are synced.
abbrev pub Carries : {E V : Type 0} → (Slot → Option (Content E V)) → Whereabouts → Item E V → Whereabouts
    → Type 0
Carries m t (Run f []) u = u ≡ t
Carries m t (Run f (e ∷ es)) u =
    (t.first ≤ f) × (f ≤ t.split) × (t.split ≤ f + length (e ∷ es)) × (f + length (e ∷ es) ≤ t.end)
    × RunStands m f (e ∷ es)
    × ((t.split ≡ f + length (e ∷ es)) ⊎ ((t.cleaned ≡ false) × (t.compacted ≡ false)))
    × (u ≡ record t { split = f + length (e ∷ es) })
Carries m t Clean u = ((t.cleaned ≡ true) ⊎ NothingRewritten m t) × (u ≡ record t { cleaned = false })
Carries m t (Compact c) u =
    (((t.first < t.split) × (c ≡ t.first)) ⊎ ((t.first ≡ t.split) × (c ≡ top)))
    × (u ≡ record t { compacted = false })
Carries m t (Put k v) u =
    (m (Key k) ≡ Some (Value v)) × (t.appended k ≡ true → (t.cleaned ≡ false) × (t.deleted k ≡ false))
    × (u ≡ record t { appended = with_key t.appended k false })
Carries m t (Del k) u =
    ((t.deleted k ≡ true) ⊎ (t.appended k ≡ false → m (Key k) ≡ None))
    × (u ≡ record t { deleted = with_key t.deleted k false })

-- Rewrite may take these items, one after another, and the whereabouts are `t` before and `u` after them
abbrev pub CarriesAll : {E V : Type 0} → (Slot → Option (Content E V)) → Whereabouts → List (Item E V)
    → Whereabouts → Type 0
CarriesAll m t [] u = u ≡ t
CarriesAll m t (x ∷ xs) u = (next : Whereabouts) × Carries m t x next × CarriesAll m next xs u

-- no tombstone of the raft group is owed
abbrev pub OwesNothing : Whereabouts → Type 0
OwesNothing t = (t.cleaned ≡ false) × (t.compacted ≡ false) × ((k : List ℕ) → t.deleted k ≡ false)

-- the items `kept` of Append have each entry that whereabouts `t` place in Append, and touch each key whose value `t`
-- place in Append
abbrev pub HasAppended : {E V : Type 0} → Whereabouts → List (Item E V) → Type 0
HasAppended {E} {V} t kept =
    ((i : ℕ) → t.split ≤ i → i < t.end → (entry : Content E V) × (says (Index i) kept ≡ Some (Some entry)))
    × ((k : List ℕ) → t.appended k ≡ true → (value : Option (Content E V)) × (says (Key k) kept ≡ Some value))

-- the items `kept` of Rewrite have each entry and value of content `m` that whereabouts `t` place in Rewrite
abbrev pub HasRewritten : {E V : Type 0} → (Slot → Option (Content E V)) → Whereabouts → List (Item E V)
    → Type 0
HasRewritten m t kept =
    ((i : ℕ) → t.first ≤ i → i < t.split → says (Index i) kept ≡ Some (m (Index i)))
    × ((k : List ℕ) → t.appended k ≡ false → (m (Key k) ≡ None) ⊎ (says (Key k) kept ≡ Some (m (Key k))))

-- whereabouts `u` are `t`, but if the raft group has no entries, another index may be its `first`, `split` and `end`
abbrev pub IsRenumbered : Whereabouts → Whereabouts → Type 0
IsRenumbered t u =
    (u ≡ t)
    ⊎ ((t.first ≡ t.end) × ((n : ℕ) × (n ≤ top) × (u ≡ record t { first = n; split = n; end = n })))
