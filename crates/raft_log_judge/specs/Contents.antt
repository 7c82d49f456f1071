-- What the judge checks of the contents that batches leave: which entries and keys are there.
use Rattle.std.specs.Prelude.{◌≡◌, ◌≤◌, ◌<◌, ◌+◌, ◌⊎◌, ◌&&◌, ℕ, true, List, [], ◌∷◌, Option, Some, None, length, map, bytes_eq, is_some}
use Rattle.std.specs.Map.{lookup}
use Rattle.raft_log_model_laws.specs.Item.{Item, Tagged}
use Rattle.raft_log_model_laws.specs.Item.Item.{Run, Put}
use Rattle.raft_log_model_laws.specs.Meaning.Slot.{Index, Key}
use Rattle.raft_log_model_laws.specs.Groups.{taken}
use Rattle.raft_log_world.specs.Reads.{Contents, is_below, is_from}
use Rattle.raft_log_judge.specs.declared.change.Change.{Change}
use Rattle.raft_log_judge.specs.Changes.{says_of}
use Rattle.raft_log_judge.specs.Judging.{no_contents}

-- the contents after all these batches
abbrev pub after_all : List (List Change) → Contents
after_all batches = taken no_contents (map says_of batches)

-- the group has an entry at each index from `begin` on, below `end`
abbrev pub HasAll : Contents → ℕ → ℕ → ℕ → Type 0
HasAll m group begin end = (index : ℕ) → begin ≤ index → index < end → m group (Index index) ≡ None → ⊥

-- the index is below this end, if there is one
abbrev pub IsBefore : Option ℕ → ℕ → Type 0
IsBefore None index = Unit {0}
IsBefore (Some end) index = index < end

-- the group has no entry from `begin` on, below `end` if there is one
abbrev pub NoneIn : Contents → ℕ → ℕ → Option ℕ → Type 0
NoneIn m group begin end = (index : ℕ) → begin ≤ index → IsBefore end index → m group (Index index) ≡ None

-- If the item is a run, take those of its indexes that are at least `begin`, and below `end` if there is one. In the
-- contents `m`, the group has no entry at any of them.
abbrev pub IsGone : Contents → ℕ → ℕ → Option ℕ → Item (List ℕ) (List ℕ) → Type 0
IsGone m group begin end (Run first entries) = (index : ℕ) → begin ≤ index → IsBefore end index → first ≤ index
    → index < first + length entries → m group (Index index) ≡ None
IsGone m group begin end item = Unit {0}

-- `IsGone` holds for each of these items that is of the group
abbrev pub AllGone : Contents → ℕ → ℕ → Option ℕ → List (Tagged (List ℕ) (List ℕ)) → Type 0
AllGone m group begin end [] = Unit {0}
AllGone m group begin end (x ∷ xs) = (x.group ≡ group → IsGone m group begin end x.item) × AllGone m group begin end xs

-- Suppose key `k` is at least `start` and below `end`; either bound may be missing. Then `k` has no value in the
-- contents `m`, or one of `pairs` has this key.
abbrev pub IsListed : Contents → ℕ → Option (List ℕ) → Option (List ℕ) → List (List ℕ × List ℕ) → List ℕ → Type 0
IsListed m group start end pairs k = is_from start k && is_below end k ≡ true
    → (m group (Key k) ≡ None) ⊎ (is_some (lookup (bytes_eq k) pairs) ≡ true)

-- if the item puts a key, `IsListed` holds for this key
abbrev pub ListsPut : Contents → ℕ → Option (List ℕ) → Option (List ℕ) → List (List ℕ × List ℕ)
    → Item (List ℕ) (List ℕ) → Type 0
ListsPut m group start end pairs (Put key value) = IsListed m group start end pairs key
ListsPut m group start end pairs item = Unit {0}

-- `IsListed` holds for each key of the group that these items put
abbrev pub ListsPuts : Contents → ℕ → Option (List ℕ) → Option (List ℕ) → List (List ℕ × List ℕ)
    → List (Tagged (List ℕ) (List ℕ)) → Type 0
ListsPuts m group start end pairs [] = Unit {0}
ListsPuts m group start end pairs (x ∷ xs) =
    (x.group ≡ group → ListsPut m group start end pairs x.item) × ListsPuts m group start end pairs xs
