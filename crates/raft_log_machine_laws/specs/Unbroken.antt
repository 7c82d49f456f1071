-- Unbroken records: no other record comes between those of an atomic group in Rewrite.
use Rattle.std.specs.Prelude.{◌≡◌, ℕ, List, [], ◌∷◌, ◌++◌, map, Option, Some, None}
use Rattle.raft_log_model_laws.specs.Item.{Tagged, Record}
use Rattle.raft_log_model_laws.specs.Item.Record.{Plain, Part}
use Rattle.raft_log_model_laws.specs.Item.Mark.{Begin, Middle, End}

-- the number of the atomic group that may continue after these records; before them it is `going`
abbrev pub going_on : {E V : Type 0} → Option ℕ → List (Record E V) → Option ℕ
going_on going [] = going
going_on going (Plain xs ∷ rs) = going_on None rs
going_on going (Part (Begin n) xs ∷ rs) = going_on (Some n) rs
going_on going (Part (Middle n) xs ∷ rs) = going_on going rs
going_on going (Part (End n) xs ∷ rs) = going_on None rs

-- Each middle or end of an atomic group comes right after its begin or a middle of it. `going` is the group that may
-- continue at the first record. A group needn't have an end.
abbrev pub UnbrokenFrom : {E V : Type 0} → Option ℕ → List (Record E V) → Type 0
UnbrokenFrom going [] = Unit {0}
UnbrokenFrom going (Plain xs ∷ rs) = UnbrokenFrom None rs
UnbrokenFrom going (Part (Begin n) xs ∷ rs) = UnbrokenFrom (Some n) rs
UnbrokenFrom going (Part (Middle n) xs ∷ rs) = (going ≡ Some n) × UnbrokenFrom going rs
UnbrokenFrom going (Part (End n) xs ∷ rs) = (going ≡ Some n) × UnbrokenFrom None rs

-- Each middle or end of an atomic group comes right after its begin or a middle of it. The list may start within a
-- group, as when older files are lost.
abbrev pub IsUnbroken : {E V : Type 0} → List (Record E V) → Type 0
IsUnbroken rs = (going : Option ℕ) × UnbrokenFrom going rs

-- the records of atomic group `n` before its end: the begin, with the items `first`, and its middles
abbrev pub begun : {E V : Type 0} → ℕ → List (Tagged E V) → List (List (Tagged E V)) → List (Record E V)
begun n first more = Part (Begin n) first ∷ map (λ xs. Part (Middle n) xs) more

-- all items of an atomic group's begin and middles, in one list
abbrev pub joined : {E V : Type 0} → List (Tagged E V) → List (List (Tagged E V)) → List (Tagged E V)
joined first [] = first
joined first (xs ∷ more) = joined (first ++ xs) more
