-- The table of one raft group, with consecutive entries and the values of keys, and what each item does to it.
use Rattle.std.specs.Prelude.{◌≡◌, ℕ, ◌+◌, ◌-◌, min, ◌&&◌, List, [], ◌∷◌, ◌++◌, Option, Some, None, option_map, if◌then◌else◌, nat_le, nat_lt, slice_get, bytes_eq, length, take, drop}
use Rattle.raft_log_model_laws.specs.Item.{Item}
use Rattle.raft_log_model_laws.specs.Item.Item.{Run, Clean, Compact, Put, Del}
use Rattle.raft_log_model_laws.specs.Meaning.{Slot, Content, holds}
use Rattle.raft_log_model_laws.specs.Meaning.Slot.{Index, Key}
use Rattle.raft_log_model_laws.specs.Meaning.Content.{Entry, Value}
use Rattle.raft_log_model_laws.specs.Holes.{Window, is_past}

-- the entries, which are consecutive from index `first` on, and the value of each key, if it has one
pub record Table (E V : Type 0) : Type 0 where
  pub first : ℕ
  pub entries : List E
  pub values : List ℕ → Option V

-- what is in the slot, by this table
abbrev pub content : {E V : Type 0} → Table E V → Slot → Option (Content E V)
content t (Index i) = if nat_le t.first i then option_map Entry (slice_get t.entries (i - t.first)) else None
content t (Key k) = option_map Value (t.values k)

-- the current run of the table: its first index, and the index after its last
abbrev pub span_of : {E V : Type 0} → Table E V → Window
span_of t = record { first = t.first; end = t.first + length t.entries }

-- a table without entries and values
abbrev pub no_table : {E V : Type 0} → Table E V
no_table = record { first = 0; entries = []; values = λ k. None }

-- the table without the entries below index `c`
abbrev pub compacted : {E V : Type 0} → Table E V → ℕ → Table E V
compacted t c =
    record t {
      first = t.first + min (c - t.first) (length t.entries);
      entries = drop (c - t.first) t.entries;
    }

-- the table without the entries from this index on; for `None`, the same table
abbrev pub cut_from : {E V : Type 0} → Table E V → Option ℕ → Table E V
cut_from t None = t
cut_from t (Some h) = record t { entries = take (h - t.first) t.entries }

-- The table after a run `es` from index `f` on, which replaces all entries from there on. `f` must not be past the end
-- of the table's entries.
abbrev pub run_onto : {E V : Type 0} → Table E V → ℕ → List E → Table E V
run_onto t f es = record t {
  first = if nat_lt t.first f && nat_lt 0 (length t.entries) then t.first else f;
  entries = take (f - t.first) t.entries ++ es;
}

-- the table with value `v` for key `k`
abbrev pub put : {E V : Type 0} → Table E V → List ℕ → V → Table E V
put t k v = record t { values = λ j. if bytes_eq k j then Some v else t.values j }

-- the table without key `k`
abbrev pub delete : {E V : Type 0} → Table E V → List ℕ → Table E V
delete t k = record t { values = λ j. if bytes_eq k j then None else t.values j }

-- the table after one more item, which must not be a run that starts past the end of the table's entries
abbrev pub table_step : {E V : Type 0} → Table E V → Item E V → Table E V
table_step t (Run f []) = t
table_step t (Run f (e ∷ es)) = run_onto t f (e ∷ es)
table_step t Clean = no_table
table_step t (Compact c) = compacted t c
table_step t (Put k v) = put t k v
table_step t (Del k) = delete t k

-- the table after more items, none of which may be a run that starts past the end of the table's entries at that time
abbrev pub table_after : {E V : Type 0} → Table E V → List (Item E V) → Table E V
table_after t [] = t
table_after t (x ∷ xs) = table_after (table_step t x) xs

-- the table after one more item, if a run that starts past the end drops all earlier entries
abbrev pub table_step_past : {E V : Type 0} → Table E V → Item E V → Table E V
table_step_past t (Run f []) = t
table_step_past t (Run f (e ∷ es)) =
    if is_past (span_of t) f then record t { first = f; entries = e ∷ es } else run_onto t f (e ∷ es)
table_step_past t Clean = no_table
table_step_past t (Compact c) = compacted t c
table_step_past t (Put k v) = put t k v
table_step_past t (Del k) = delete t k

-- the table after more items, if a run that starts past the end drops all earlier entries
abbrev pub table_after_past : {E V : Type 0} → Table E V → List (Item E V) → Table E V
table_after_past t [] = t
table_after_past t (x ∷ xs) = table_after_past (table_step_past t x) xs

-- the table has in each slot what these items leave there
abbrev pub IsTableOf : {E V : Type 0} → Table E V → List (Item E V) → Type 0
IsTableOf t xs = (s : Slot) → content t s ≡ holds s xs
