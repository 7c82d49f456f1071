-- The terms of a log, kept as runs: one for each sequence of neighbouring entries with the same term.
use Rattle.std.specs.Prelude.{◌≡◌, ℕ, ◌+◌, ◌-◌, ◌^◌, ◌==◌, ◌&&◌, nat_lt, Bool, true, false, not, if◌then◌else◌, List, [], ◌∷◌, ◌++◌, length, replicate, slice_get, Option, None, Some}
use Rattle.std.specs.List.{prefix_len}
use Rattle.std.specs.Option.{option_map, option_map_or}
use Rattle.raft_voter_outline.specs.declared.outline.run.Run.{Run}

-- a list of runs as contracts see it: the base index, the terms of the entries above it, and how many more runs fit in
-- its memory
pub record Terms : Type 0 where
  pub base : ℕ
  pub log : List (ℕ × List ℕ)
  pub room : ℕ

-- one entry without bytes for each index of these runs, with the run's term; the first index is right after `base`
abbrev pub unrolled : ℕ → List Run → List (ℕ × List ℕ)
unrolled base [] = []
unrolled base (r ∷ rs) = replicate (r.last - base) (r.term, []) ++ unrolled r.last rs

-- each run ends at a higher index than the one before, the first above `base`, and all these indexes are in range
abbrev pub are_runs : ℕ → List Run → Bool
are_runs base [] = nat_lt base (2 ^ 63)
are_runs base (r ∷ rs) = nat_lt base r.last && are_runs r.last rs

-- there is an entry before, and its term is `term`
abbrev pub is_behind : Option ℕ → ℕ → Bool
is_behind before term = option_map_or (λ t. t == term) before false

-- No run has the same term as the run before it. The first run's term isn't `before`, the term of the entry before that
-- run.
abbrev pub are_apart : Option ℕ → List Run → Bool
are_apart before [] = true
are_apart before (r ∷ rs) = not (is_behind before r.term) && are_apart (Some r.term) rs

-- `rs` are the runs of a log with this base: their last indexes rise and are in range, and neighbours have different
-- terms
pub record AreRunsOf (base : ℕ) (rs : List Run) : Type 0 where
  pub rise : are_runs base rs ≡ true
  pub apart : are_apart None rs ≡ true

-- how many runs, counted from the first, end below `index`
abbrev pub runs_below : ℕ → List Run → ℕ
runs_below index rs = prefix_len (λ r. nat_lt r.last index) rs

-- the term of the last entry of this log, if it has one
abbrev pub top_term : List (ℕ × List ℕ) → Option ℕ
top_term log = option_map (λ e. e.0) (slice_get log (length log - 1))

-- how many runs these entries add after an entry of the term `before`, or after none
abbrev pub runs_behind : Option ℕ → List (ℕ × List ℕ) → ℕ
runs_behind before [] = 0
runs_behind before (e ∷ es) =
    (if is_behind before e.0 then 0 else 1) + runs_behind (Some e.0) es

-- these entries with their terms, but without their bytes
abbrev pub bare : List (ℕ × List ℕ) → List (ℕ × List ℕ)
bare [] = []
bare (e ∷ es) = (e.0, []) ∷ bare es
