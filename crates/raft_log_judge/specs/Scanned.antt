-- Pairs of a key and its value that a scan returned: the order of their keys, and whether the contents have them.
use Rattle.std.specs.Prelude.{◌≡◌, ◌&&◌, ℕ, true, List, [], ◌∷◌, Option, Some}
use Rattle.std.specs.Cmp.Lexicographic.{slice_cmp}
use Rattle.std.specs.List.{AllByRecursion}
use Rattle.std.specs.Ordering.{nat_cmp}
use Rattle.std.specs.declared.cmp.Ordering.TheVariants.{Less}
use Rattle.raft_log_model_laws.specs.Meaning.Slot.{Key}
use Rattle.raft_log_model_laws.specs.Meaning.Content.{Value}
use Rattle.raft_log_world.specs.Reads.{Contents, is_below, is_from}

-- key `k` is below each of the keys `ks`
abbrev pub AreBelow : List ℕ → List (List ℕ) → Type 0
AreBelow k ks = AllByRecursion (λ y. slice_cmp nat_cmp k y ≡ Less) ks

-- The pair's key is at least `start` and below `end`; either bound may be missing. In the contents `m`, the key has the
-- pair's value.
abbrev pub IsRight : Contents → ℕ → Option (List ℕ) → Option (List ℕ) → List ℕ × List ℕ → Type 0
IsRight m group start end pair = (is_from start pair.0 && is_below end pair.0 ≡ true)
    × (m group (Key pair.0) ≡ Some (Value pair.1))

-- `IsRight` holds for each of these pairs
abbrev pub AreRight : Contents → ℕ → Option (List ℕ) → Option (List ℕ) → List (List ℕ × List ℕ) → Type 0
AreRight m group start end [] = Unit {0}
AreRight m group start end (pair ∷ pairs) = IsRight m group start end pair × AreRight m group start end pairs
