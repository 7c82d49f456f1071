-- Atomic groups whose last record is never written: none of their items count.
use Rattle.std.specs.Prelude.{◌≡◌, ℕ, ◌<◌, ◌≤◌, List, [], ◌∷◌, ◌++◌, None}
use Rattle.raft_log_model_laws.specs.Item.{Record, Tagged}
use Rattle.raft_log_model_laws.specs.Item.Mark.{Begin, End, Middle}
use Rattle.raft_log_model_laws.specs.Item.Record.{Part, Plain}
use Rattle.raft_log_model_laws.specs.Groups.{Open, none_open, opened, settled}
use Rattle.raft_log_machine_laws.specs.Unbroken.{UnbrokenFrom, begun}
use Rattle.raft_log_engine_laws.specs.EngineState.{LogDirectories, LogMap, EngineState}
use Rattle.raft_log_engine_laws.specs.Holding.{Represents}
use Rattle.raft_log_engine_laws.specs.Parts.{HoldsInGroup, UnendedGroup}

-- an open atomic group may be given up at any time: the log has the same contents
abbrev pub GroupsMayBeGivenUp : Type 0
GroupsMayBeGivenUp = (home : LogDirectories) (e : EngineState) (m : LogMap) (o : UnendedGroup) → HoldsInGroup home e m o
    → Represents home e m []

-- The records of atomic group `n`, which has a begin and no end, are between the records `front` and `back`. In `back`,
-- each middle or end comes right after a begin or a middle of the same atomic group. So no record of `back` continues
-- `n`. Then all other records count as if those of `n` were not there.
abbrev pub GroupsLeftOpenCountNot : Type 0 → Type 0 → Type 0
GroupsLeftOpenCountNot E V = (front back : List (Record E V)) (n : ℕ) (first : List (Tagged E V))
    (more : List (List (Tagged E V))) → UnbrokenFrom None back
    → settled (front ++ (begun n first more ++ back)) ≡ settled (front ++ back)

-- each open atomic group has a number below `n`
abbrev pub AreOpenBelow : {E V : Type 0} → ℕ → Open E V → Type 0
AreOpenBelow n o = (k : ℕ) → n ≤ k → o k ≡ None

-- each record that is part of an atomic group has a group number of `n` or above
abbrev pub AreNumberedFrom : {E V : Type 0} → ℕ → List (Record E V) → Type 0
AreNumberedFrom n [] = Unit {0}
AreNumberedFrom n (Plain xs ∷ rs) = AreNumberedFrom n rs
AreNumberedFrom n (Part (Begin k) xs ∷ rs) = (n ≤ k) × AreNumberedFrom n rs
AreNumberedFrom n (Part (Middle k) xs ∷ rs) = (n ≤ k) × AreNumberedFrom n rs
AreNumberedFrom n (Part (End k) xs ∷ rs) = (n ≤ k) × AreNumberedFrom n rs

-- The records `new` come after the records `old`, and their atomic groups have higher numbers than all that `old`
-- leaves open. Then `new` counts as if `old` had left no group open. The groups left open by `old` stay as they are.
abbrev pub NewGroupsEndNoOldOnes : Type 0 → Type 0 → Type 0
NewGroupsEndNoOldOnes E V = (old new : List (Record E V)) (n : ℕ) → AreOpenBelow n (opened none_open old)
    → AreNumberedFrom n new
    → (settled (old ++ new) ≡ settled old ++ settled new)
    × ((k : ℕ) → k < n → opened none_open (old ++ new) k ≡ opened none_open old k)
