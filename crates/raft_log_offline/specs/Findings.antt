-- The findings of a check: for each group, the index after which the first indexes are missing.
use Rattle.std.specs.BTreeMap.{BTreeMap, get}
use Rattle.std.specs.List.Sorted.{IsStrictlySortedBy}
use Rattle.std.specs.Option.{option_and_then, option_or}
use Rattle.std.specs.Ordering.{nat_cmp}
use Rattle.std.specs.Prelude.{◌≡◌, ◌↔◌, ℕ, ◌==◌, false, List, map, Contains, Option, Some}
use Rattle.raft_log_replay.specs.Machines.{Batch}
use Rattle.raft_log_offline.specs.Runs.{finding, runs_of}
use Rattle.raft_log_offline.specs.Kept.{kept_of}
use Rattle.raft_log_offline.specs.declared.checker.ConsistencyChecker.{ConsistencyChecker}

-- `found` gives the finding of a group, if it has one. `findings` lists each such group with its finding, once, sorted
-- by group.
pub record Lists (found : ℕ → Option ℕ) (findings : List (ℕ × ℕ)) : Type 0 where
  pub rising : IsStrictlySortedBy nat_cmp (map (λ f. f.0) findings)
  pub exact : (group end : ℕ) → Contains findings (group, end) ↔ (found group ≡ Some end)

-- the finding that a checker has for a group
abbrev pub told_by : ConsistencyChecker → ℕ → Option ℕ
told_by checker group = option_and_then (λ k. k.hole_after) (kept_of checker group)

-- the findings in `first`, and those in `second` for groups that have none in `first`
abbrev pub told_over : (ℕ → Option ℕ) → (ℕ → Option ℕ) → ℕ → Option ℕ
told_over first second group = option_or (first group) (second group)

-- the finding that a map has for a group
abbrev pub found_among : BTreeMap ℕ ℕ → ℕ → Option ℕ
found_among found group = get nat_cmp found group

-- if there is a finding `end`, it replaced the group's finding in the map; the other groups are unchanged
pub record NotesFinding (group : ℕ) (end : Option ℕ) (old new : BTreeMap ℕ ℕ) : Type 0 where
  pub one : found_among new group ≡ option_or end (found_among old group)
  pub others : (other : ℕ) → (group == other) ≡ false → found_among new other ≡ found_among old other

-- the findings `told` were added to the map, and replaced those of the same groups
abbrev pub TellsOver : (ℕ → Option ℕ) → BTreeMap ℕ ℕ → BTreeMap ℕ ℕ → Type 0
TellsOver told old new = (group : ℕ) → found_among new group ≡ told_over told (found_among old) group

-- the finding for a group in the batches of one queue
abbrev pub finding_in : List Batch → ℕ → Option ℕ
finding_in batches group = finding (runs_of group batches)

-- the finding for a group in a log: that in Rewrite, or that in Append if Rewrite has none
abbrev pub finding_of : List Batch → List Batch → ℕ → Option ℕ
finding_of append rewrite = told_over (finding_in rewrite) (finding_in append)
