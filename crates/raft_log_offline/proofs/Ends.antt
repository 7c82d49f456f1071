-- The ends of a run are those of its entries.
use Rattle.std.proofs.Common.{◌≡◌, ℕ, ◌-◌, suc, List, [], ◌∷◌, length, slice_get, Some, None, sym, ap, ap₂, ◌∙◌, arith}
use Rattle.raft_log_record_items.specs.declared.entry.EntryIndex.{EntryIndex}
use Rattle.raft_log_offline.specs.Runs.{last_index, run_in}
use Rattle.raft_log_offline.specs.Kept.{kept}
use Rattle.raft_log_offline.proofs.Holes.{same_value, some_is}

last_of : (e : EntryIndex) (es : List EntryIndex) (b : EntryIndex) → Some b ≡ slice_get (e ∷ es) (length es) → b.index ≡ last_index e.index es
last_of e [] b is = ap (λ x. x.index) (same_value is)
last_of e (f ∷ fs) b is = last_of f fs b is

less_one : (n : ℕ) → suc n - 1 ≡ n
less_one n = omega arith

-- what is kept of entries with these first and last ones
pub ends_are : (es : List EntryIndex) (a b : EntryIndex) → Some a ≡ slice_get es 0 → Some b ≡ slice_get es (length es - 1)
    → Some (record { first = a.index; last = b.index; hole_after = None }) ≡ kept (run_in es)
ends_are [] a b first last = some_is (sym first)
ends_are (e ∷ es) a b first last =
    ap₂ (λ i j. Some (record { first = i; last = j; hole_after = None })) (ap (λ x. x.index) (same_value first))
    (last_of e es b (last ∙ ap (slice_get (e ∷ es)) (less_one (length es))))
