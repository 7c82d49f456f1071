-- Bounds for a scan over the keys of a table.
use Rattle.std.specs.Prelude.{◌≡◌, ℕ, false, ◌&&◌, List, Option, Some, None, if◌then◌else◌}
use Rattle.std.specs.declared.cmp.Ordering.{Ordering}
use Rattle.std.specs.BTreeMap.Range.{range_contains, IsLeBy, IsLtBy}
use Rattle.std.specs.Cmp.Lexicographic.{slice_cmp}
use Rattle.std.specs.Ordering.{is_gt, nat_cmp}
use Rattle.std.specs.Range.Bound.{IsForward}
use Rattle.std.specs.declared.ops.Bound.{Bound}
use Rattle.std.specs.declared.ops.Bound.TheVariants.{Included, Excluded, Unbounded}
use Rattle.raft_log_memtable_index.specs.Listing.{is_below, is_from}

-- the lower bound that includes `k`, or no bound if there is no `k`
abbrev pub from_bound : {K : Type 0} → Option K → Bound K
from_bound None = Unbounded
from_bound (Some k) = Included k

-- the upper bound that excludes `k`, or no bound if there is no `k`
abbrev pub below_bound : {K : Type 0} → Option K → Bound K
below_bound None = Unbounded
below_bound (Some k) = Excluded k

-- the end of the scan, or its start if the end is below the start
abbrev pub later_end : Option (List ℕ) → Option (List ℕ) → Option (List ℕ)
later_end None end = end
later_end (Some start) None = None
later_end (Some start) (Some end) = if is_gt (slice_cmp nat_cmp start end) then Some start else Some end

-- compares two keys by their bytes
abbrev pub by_bytes_cmp : {K : Type 0} → (K → List ℕ) → K → K → Ordering
by_bytes_cmp items x y = slice_cmp nat_cmp (items x) (items y)

-- `b` is a lower and an upper bound, in the right order. Every key that is at least `start` and below `end` is within
-- these bounds.
pub record IsBoundAround {K : Type 0} (items : K → List ℕ) (start end : Option (List ℕ)) (b : Bound K × Bound K) : Type 0 where
  pub forward : IsForward (IsLeBy (by_bytes_cmp items)) (IsLtBy (by_bytes_cmp items)) b.0 b.1
  pub around : (k : K) → range_contains (by_bytes_cmp items) b.0 b.1 k ≡ false → (is_from start (items k) && is_below end (items k)) ≡ false
