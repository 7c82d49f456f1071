-- Where consecutive entries in a block begin and end.
use Rattle.std.specs.Prelude.{ℕ, ◌+◌, ◌*◌, ◌<◌, ◌^◌, List, [], ◌∷◌, ◌++◌}
use Rattle.raft_log_extents.specs.declared.bounds.Bounds.{Bounds}
use Rattle.raft_log_extents.specs.declared.bounds.Bounds.TheVariants.{Even, Uneven}
use Rattle.raft_log_extents.specs.Blocks.{rising}

-- the offset at which each entry begins, and then the offset at which the last entry ends
abbrev pub bounds_of : Bounds → List ℕ
bounds_of (Even start size count) = rising start size (count + 1)
bounds_of (Uneven starts end) = starts.now ++ (end ∷ [])

-- if all entries have the same length (`Even`), each begins at an offset below 2 ^ 32; otherwise nothing is required
abbrev pub AreShort : Bounds → Type 0
AreShort (Even start size count) = (j : ℕ) → j < count → start + j * size < 2 ^ 32
AreShort (Uneven starts end) = Unit {0}
