-- The atomic groups that have begun and not ended. A context keeps them in a list, in which a slot has a group or is
-- free.
use Rattle.std.specs.Prelude.{◌≡◌, ℕ, ◌==◌, List, [], ◌∷◌, ◌++◌, get_or, set, Option, Some, None, option_map, if◌then◌else◌}
use Rattle.std.specs.BTreeMap.{get, BTreeMap}
use Rattle.std.specs.Ordering.{nat_cmp}
use Rattle.raft_log_replay_context.specs.declared.part.GroupPart.{GroupPart}
use Rattle.raft_log_replay_context.specs.declared.open_groups.OpenGroup.{OpenGroup}

-- an atomic group that has begun: its number, and its records so far
abbrev pub Begun : Type 0
Begun = ℕ × List GroupPart

-- the group's number and records
abbrev pub begun_of : OpenGroup → Begun
begun_of u = (u.number, u.parts.items)

-- the groups in these slots, in order
abbrev pub begun_in : List (Option OpenGroup) → List Begun
begun_in [] = []
begun_in (None ∷ ss) = begun_in ss
begun_in (Some u ∷ ss) = begun_of u ∷ begun_in ss

-- the number of the group in slot `i`, if a group is there
abbrev pub number_at : List (Option OpenGroup) → ℕ → Option ℕ
number_at ss i = option_map (λ (u : OpenGroup). u.number) (get_or ss i None)

-- `places` gives for each group's number its slot, and has no other numbers
abbrev pub ArePlaced : List (Option OpenGroup) → BTreeMap ℕ ℕ → Type 0
ArePlaced ss places =
    ((n i : ℕ) → get nat_cmp places n ≡ Some i → number_at ss i ≡ Some n)
    × ((n i : ℕ) → number_at ss i ≡ Some n → get nat_cmp places n ≡ Some i)

-- `new` has the same groups as `old`, in the same slots
abbrev pub IsSameInSlots : List (Option OpenGroup) → List (Option OpenGroup) → Type 0
IsSameInSlots old new =
    (begun_in new ≡ begun_in old) × ((i : ℕ) → get_or new i None ≡ get_or old i None)

-- the group in slot `i` got the further record `p`
pub record HasMoreAt (i : ℕ) (p : GroupPart) (old new : List (Option OpenGroup)) : Type 0 where
  pub before : OpenGroup
  pub after : OpenGroup
  pub stood : get_or old i None ≡ Some before
  pub stands : new ≡ set old i (Some after)
  pub more : begun_of after ≡ (before.number, before.parts.items ++ p ∷ [])

-- the group with number `n`, if it is in the list
abbrev pub begun_at : ℕ → List Begun → Option Begun
begun_at n [] = None
begun_at n (u ∷ us) = if u.0 == n then Some u else begun_at n us

-- the list without the group with number `n`
abbrev pub without_begun : ℕ → List Begun → List Begun
without_begun n [] = []
without_begun n (u ∷ us) = if u.0 == n then without_begun n us else u ∷ without_begun n us

-- the list, in which the group with number `n` has the further record `p`
abbrev pub with_part : ℕ → GroupPart → List Begun → List Begun
with_part n p [] = []
with_part n p (u ∷ us) = (if u.0 == n then (u.0, u.1 ++ p ∷ []) else u) ∷ with_part n p us

-- If the list has a group with number `n`, this group got the record `p`, and nothing is returned. Otherwise nothing
-- changed, and `p` is returned.
abbrev pub GoesOnAmong : ℕ → GroupPart → List Begun → List Begun → Option GroupPart → Type 0
GoesOnAmong n p old new None = ((u : Begun) × (begun_at n old ≡ Some u)) × (new ≡ with_part n p old)
GoesOnAmong n p old new (Some q) = (begun_at n old ≡ None) × (new ≡ old) × (q ≡ p)

-- the list after the groups of the second list were added at the end, one after another; each replaces one with the
-- same number
abbrev pub all_pushed : List Begun → List Begun → List Begun
all_pushed us [] = us
all_pushed us (v ∷ vs) = all_pushed (without_begun v.0 us ++ v ∷ []) vs
