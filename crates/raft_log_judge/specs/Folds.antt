-- Whether a slot of a log has certain bytes, or nothing, after batches: computed from one change after another.
use Rattle.std.specs.Prelude.{◌-◌, ◌==◌, ◌||◌, ℕ, Bool, true, false, List, [], ◌∷◌, Option, Some, None, if◌then◌else◌, bytes_eq, length, map, nat_lt, slice_get}
use Rattle.raft_log_model_laws.specs.Item.{Item, Tagged}
use Rattle.raft_log_model_laws.specs.Item.Item.{Run, Clean, Compact, Put, Del}
use Rattle.raft_log_judge.specs.declared.change.Change.{Change}
use Rattle.raft_log_judge.specs.Changes.{tagged}

-- these bytes if the flag is true, otherwise none
abbrev pub wanted : Bool → List ℕ → Option (List ℕ)
wanted true bytes = Some bytes
wanted false bytes = None

-- whether both are none, or both have the same bytes
abbrev pub is_same : Option (List ℕ) → Option (List ℕ) → Bool
is_same None None = true
is_same None (Some want) = false
is_same (Some bytes) None = false
is_same (Some bytes) (Some want) = bytes_eq bytes want

-- whether the entry at index `i` is `want` after an item; `before` says whether it was `want` before the item
abbrev pub entry_step : ℕ → Option (List ℕ) → Bool → Item (List ℕ) (List ℕ) → Bool
entry_step i want before (Run first entries) =
    if (length entries == 0) || nat_lt i first then before else is_same (slice_get entries (i - first)) want
entry_step i want before Clean = is_same None want
entry_step i want before (Compact index) = if nat_lt i index then is_same None want else before
entry_step i want before (Put key value) = before
entry_step i want before (Del key) = before

-- whether the value of key `k` is `want` after an item; `before` says whether it was `want` before the item
abbrev pub value_step : List ℕ → Option (List ℕ) → Bool → Item (List ℕ) (List ℕ) → Bool
value_step k want before (Run first entries) = before
value_step k want before Clean = is_same None want
value_step k want before (Compact index) = before
value_step k want before (Put key value) = if bytes_eq key k then is_same (Some value) want else before
value_step k want before (Del key) = if bytes_eq key k then is_same None want else before

-- a step for an item of group `g`; other items change nothing
abbrev pub in_group : ℕ → (Bool → Item (List ℕ) (List ℕ) → Bool) → Bool → Tagged (List ℕ) (List ℕ) → Bool
in_group g step before x = if x.group == g then step before x.item else before

-- the flag `before`, changed by the step for each of these items in order
abbrev pub folded : (Bool → Tagged (List ℕ) (List ℕ) → Bool) → Bool → List (Tagged (List ℕ) (List ℕ)) → Bool
folded step before [] = before
folded step before (x ∷ xs) = folded step (step before x) xs

-- the flag `before`, changed by the step for each change of these batches in order
abbrev pub folded_all : (Bool → Tagged (List ℕ) (List ℕ) → Bool) → Bool → List (List Change) → Bool
folded_all step before [] = before
folded_all step before (batch ∷ batches) = folded_all step (folded step before (map tagged batch)) batches
