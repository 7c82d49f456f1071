-- In each queue, the lowest file that has the value of one of a table's keys.
use Rattle.std.specs.Prelude.{◌≡◌, ℕ, ◌≤◌, min, Bool, not, List, [], ◌∷◌, Option, Some, None, map, if◌then◌else◌}
use Rattle.raft_log_memtable_index.specs.Shown.{KeyValue}
use Rattle.raft_log_memtable_index.specs.declared.key_map.HeldValue.{HeldValue}
use Rattle.raft_log_memtable_index.specs.declared.key_map.KeySlot.{KeySlot}

-- the lower one of two file numbers, either of which may be missing
abbrev pub lesser : Option ℕ → Option ℕ → Option ℕ
lesser None b = b
lesser (Some a) None = Some a
lesser (Some a) (Some b) = Some (min a b)

-- the file of a value, if there is one in this queue: in Append if `appended` is true, else in Rewrite
abbrev pub file_of_value : Bool → Option HeldValue → Option ℕ
file_of_value appended None = None
file_of_value appended (Some h) =
    if (if appended then h.appended else not h.appended) then Some h.file else None

-- the lowest one of `least` and the files of these slots' values in one queue: Append if `appended` is true, else
-- Rewrite
abbrev pub least_over : Bool → Option ℕ → List KeySlot → Option ℕ
least_over appended least [] = least
least_over appended least (s ∷ ss) = least_over appended (lesser least (file_of_value appended s.held)) ss

-- the lowest file of these slots' values in one queue: Append if `appended` is true, else Rewrite
abbrev pub least_value : Bool → List (List ℕ × KeySlot) → Option ℕ
least_value appended slots = least_over appended None (map (λ e. e.1) slots)

-- The last argument is the lowest file number of the values in one queue: Append if `appended` is true, else Rewrite.
-- Some value is in that file, and none in a lower one. It is `None` if the queue has no value.
abbrev pub IsLeastValue : Bool → (List ℕ → Option KeyValue) → Option ℕ → Type 0
IsLeastValue appended held None =
    (k : List ℕ) (h : KeyValue) → held k ≡ Some h → h.appended ≡ appended → ⊥
IsLeastValue appended held (Some n) =
    ((k : List ℕ) (h : KeyValue) → held k ≡ Some h → h.appended ≡ appended → n ≤ h.file)
    × ((k : List ℕ) × (h : KeyValue) × (held k ≡ Some h) × (h.appended ≡ appended) × (h.file ≡ n))
