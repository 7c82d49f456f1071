-- Lists of a table's keys, in the order of their bytes.
use Rattle.std.specs.Prelude.{◌≡◌, ◌-◌, ◌^◌, ℕ, min, Bool, true, false, not, ◌&&◌, List, [], ◌∷◌, ◌++◌, length, reverse, Option, Some, None, if◌then◌else◌, nat_le, bytes_eq}
use Rattle.std.specs.Cmp.Lexicographic.{slice_cmp}
use Rattle.std.specs.List.Sorted.{IsStrictlySortedBy}
use Rattle.std.specs.Map.{keys_of, lookup}
use Rattle.std.specs.Ordering.{is_le, is_lt, nat_cmp}
use Rattle.raft_log_memtable_index.specs.Bridge.{AllOwed, bytes_held, without}
use Rattle.raft_log_memtable_index.specs.Shown.{KeyValue, Shown}

-- `es` lists each key that has a value in `values`, once and with that value, in the order of the keys' bytes
pub record ListsAll {X : Type 0} (values : List ℕ → Option X) (es : List (List ℕ × X)) : Type 0 where
  pub rising : IsStrictlySortedBy (slice_cmp nat_cmp) (keys_of es)
  pub exact : (k : List ℕ) → lookup (bytes_eq k) es ≡ values k

-- `n` is the number of keys that have a value in `values`, or 2 ^ 64 - 1 if that is less
abbrev pub CountsAll : {X : Type 0} → (List ℕ → Option X) → ℕ → Type 0
CountsAll {X} values n = (es : List (List ℕ × X)) × ListsAll values es × (n ≡ min (length es) (2 ^ 64 - 1))

-- `new` is `old`, and then each key that has a value in `values`, once and with that value, in the order of the keys'
-- bytes
abbrev pub AddsAll : {X : Type 0} → (List ℕ → Option X) → List (List ℕ × X) → List (List ℕ × X) → Type 0
AddsAll {X} values old new = (es : List (List ℕ × X)) × ListsAll values es × (new ≡ old ++ es)

-- `ks` lists every key for which `marked` is true, once, in the order of the keys' bytes
pub record ListsMarked (marked : List ℕ → Bool) (ks : List (List ℕ)) : Type 0 where
  pub rising : IsStrictlySortedBy (slice_cmp nat_cmp) ks
  pub owed : AllOwed marked ks
  pub all : (k : List ℕ) → without marked ks k ≡ false

-- Whether a value is to be listed. With a gate (a file number), it must be in Append, in a file up to the gate. Without
-- one, it must be in Rewrite.
abbrev pub is_asked : Option ℕ → KeyValue → Bool
is_asked None h = not h.appended
is_asked (Some gate) h = h.appended && nat_le h.file gate

-- the bytes of a value, if there is one and it is to be listed
abbrev pub asked_bytes : Option ℕ → Option KeyValue → Option (List ℕ)
asked_bytes gate None = None
asked_bytes gate (Some h) = if is_asked gate h then Some h.bytes else None

-- for each key, the bytes of its value, if that is in Append, in a file up to the gate
abbrev pub appended_values : ℕ → Shown → List ℕ → Option (List ℕ)
appended_values gate v k = asked_bytes (Some gate) (v.held k)

-- for each key, the bytes of its value, if that is in Rewrite
abbrev pub rewritten_values : Shown → List ℕ → Option (List ℕ)
rewritten_values v k = asked_bytes None (v.held k)

-- there is no start, or the key is at least the start
abbrev pub is_from : Option (List ℕ) → List ℕ → Bool
is_from None k = true
is_from (Some start) k = is_le (slice_cmp nat_cmp start k)

-- there is no end, or the key is below the end
abbrev pub is_below : Option (List ℕ) → List ℕ → Bool
is_below None k = true
is_below (Some end) k = is_lt (slice_cmp nat_cmp k end)

-- the bytes of the key's value, if it has one and the key is at least `start` and below `end`
abbrev pub bytes_within : Option (List ℕ) → Option (List ℕ) → List ℕ → Option KeyValue → Option (List ℕ)
bytes_within start end k value = if is_from start k && is_below end k then bytes_held value else None

-- for each key that is at least `start` and below `end`, the bytes of its value, if it has one
abbrev pub values_within : Option (List ℕ) → Option (List ℕ) → Shown → List ℕ → Option (List ℕ)
values_within start end v k = bytes_within start end k (v.held k)

-- the callback was called with the pairs in order, until it returned false or the pairs ended
abbrev pub Visits : {F : Type 0} → (F → List ℕ → List ℕ → Bool → F → Type 0) → F → List (List ℕ × List ℕ)
    → Type 0
Visits called f [] = Unit {0}
Visits {F} called f (e ∷ es) =
    (more : Bool) × (next : F) × called f e.0 e.1 more next × (more ≡ true → Visits called next es)

-- the pairs, in reverse order if `backwards` is true
abbrev pub in_direction : {X : Type 0} → Bool → List X → List X
in_direction backwards es = if backwards then reverse es else es
