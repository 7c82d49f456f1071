-- Which files a scan keeps, of those that it found: the longest run of consecutive numbers that ends with the last one.
use Rattle.std.specs.Prelude.{◌≡◌, ℕ, ◌+◌, ◌-◌, ◌<◌, ◌≤◌, ◌⊎◌, List, [], ◌∷◌, ◌++◌, suc, length, slice_index_or}
use Rattle.std.specs.declared.cmp.Ordering.{Ordering}
use Rattle.std.specs.List.{AllAdjacentBelow}
use Rattle.std.specs.List.Sorted.{IsPermutation, IsSorted}
use Rattle.std.specs.Ordering.{bool_cmp, nat_cmp, ordering_then}
use Rattle.raft_log_recovery_scan.specs.declared.scanning.found.FoundFile.{FoundFile}

-- the order of files: by number, then by the position of their directory, then the name without a sign first
abbrev pub found_cmp : FoundFile → FoundFile → Ordering
found_cmp a b = ordering_then (ordering_then (nat_cmp a.seq b.seq) (nat_cmp a.path_id b.path_id))
    (bool_cmp a.signed b.signed)

-- the number of `b` is that of `a` plus one
abbrev pub FollowsNumber : FoundFile → FoundFile → Type 0
FollowsNumber a b = suc a.seq ≡ b.seq

-- the number of each file is that of the file before it plus one
abbrev pub IsConsecutive : List FoundFile → Type 0
IsConsecutive files = AllAdjacentBelow FollowsNumber files (length files)

-- The number of the first of `these` isn't that of the last of `those` plus one. In files sorted by number, a number is
-- missing between the two, or both have the same one.
pub record IsBreak (those these : List FoundFile) : Type 0 where
  pub before : List FoundFile
  pub last : FoundFile
  pub first : FoundFile
  pub behind : List FoundFile
  pub ends : those ≡ before ++ last ∷ []
  pub begins : these ≡ first ∷ behind
  pub breaks : FollowsNumber last first → ⊥

-- `kept` are the files after the last break in the numbers, in order; `dropped` are all files before it.
pub record IsRunOf (found kept : List FoundFile) : Type 0 where
  pub dropped : List FoundFile
  pub same : IsPermutation found (dropped ++ kept)
  pub ordered : IsSorted found_cmp (dropped ++ kept)
  pub consecutive : IsConsecutive kept
  pub broken : (dropped ≡ []) ⊎ IsBreak dropped kept

-- the file at position `at` doesn't follow the file before it by number
abbrev pub IsBrokenAt : List FoundFile → ℕ → Type 0
IsBrokenAt files at = (0 < at) × (at < length files)
    × ((d : FoundFile) → FollowsNumber (slice_index_or files (at - 1) d) (slice_index_or files at d) → ⊥)

-- among the files below position `end`, the last run of consecutive numbers begins at position `first`
pub record BeginsRun (files : List FoundFile) (end first : ℕ) : Type 0 where
  pub run : (k : ℕ) (d : FoundFile) → first ≤ k → k + 1 < end
      → FollowsNumber (slice_index_or files k d) (slice_index_or files (k + 1) d)
  pub broken : (first ≡ 0) ⊎ IsBrokenAt files first
