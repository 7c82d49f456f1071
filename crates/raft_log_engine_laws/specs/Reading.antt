-- Reads that need only the tables: the first and last index of a group, and its keys. They return the contents of the
-- log.
use Rattle.std.specs.Prelude.{◌≡◌, ◌<◌, ◌&&◌, ℕ, Bool, true, false, List, Option, None, Some, option_map, bytes_eq}
use Rattle.std.specs.Cmp.Lexicographic.{slice_cmp}
use Rattle.std.specs.List.Sorted.{IsStrictlySortedBy}
use Rattle.std.specs.Map.{keys_of, lookup}
use Rattle.std.specs.Ordering.{nat_cmp}
use Rattle.raft_log_model_laws.specs.Groups.{taken}
use Rattle.raft_log_model_laws.specs.Meaning.Slot.{Index, Key}
use Rattle.raft_log_model_laws.specs.Meaning.Content.{Value}
use Rattle.raft_log_memtable_index.specs.Shown.{KeyValue, Shown}
use Rattle.raft_log_memtable_index.specs.Bridge.{bytes_held}
use Rattle.raft_log_memtable_index.specs.Listing.{ListsAll, is_below, is_from, values_within}
use Rattle.raft_log_memtable.specs.Reads.{first_of, last_of}
use Rattle.raft_log_block_cache.specs.raft_log_dual_pipes.specs.Pipes.{LogRecordValue}
use Rattle.raft_log_engine_laws.specs.EngineState.{LogDirectories, LogMap, EngineState}
use Rattle.raft_log_engine_laws.specs.Holding.{Represents}

-- the first index at which group `g` has an entry, or none if it has no entry
abbrev pub IsFirstIn : LogMap → ℕ → Option ℕ → Type 0
IsFirstIn m g None = (i : ℕ) → m g (Index i) ≡ None
IsFirstIn m g (Some i) = (m g (Index i) ≡ None → ⊥) × ((j : ℕ) → j < i → m g (Index j) ≡ None)

-- the last index at which group `g` has an entry, or none if it has no entry
abbrev pub IsLastIn : LogMap → ℕ → Option ℕ → Type 0
IsLastIn m g None = (i : ℕ) → m g (Index i) ≡ None
IsLastIn m g (Some i) = (m g (Index i) ≡ None → ⊥) × ((j : ℕ) → i < j → m g (Index j) ≡ None)

-- the value of key `k` of group `g`, or none if the key has no value
abbrev pub StandsUnder : LogMap → ℕ → List ℕ → Option (List ℕ) → Type 0
StandsUnder m g k value = m g (Key k) ≡ option_map Value value

-- The read returned the first index that group `g` has in the log's contents after the pending batches, or none.
pub record ReadsFirst (e : EngineState) (g : ℕ) (index : Option ℕ) : Type 0 where
  pub shown : index ≡ first_of (e.tables g)
  pub exact : (home : LogDirectories) (m : LogMap) (pending : List LogRecordValue) → Represents home e m pending
      → IsFirstIn (taken m pending) g index

-- The read returned the last index that group `g` has in the log's contents after the pending batches, or none.
pub record ReadsLast (e : EngineState) (g : ℕ) (index : Option ℕ) : Type 0 where
  pub shown : index ≡ last_of (e.tables g)
  pub exact : (home : LogDirectories) (m : LogMap) (pending : List LogRecordValue) → Represents home e m pending
      → IsLastIn (taken m pending) g index

-- The read returned the value that the key of group `g` has in the log's contents after the pending batches, or none.
pub record ReadsValue (e : EngineState) (g : ℕ) (key : List ℕ) (value : Option (List ℕ)) : Type 0 where
  pub shown : value ≡ bytes_held ((e.tables g).held key)
  pub exact : (home : LogDirectories) (m : LogMap) (pending : List LogRecordValue) → Represents home e m pending
      → StandsUnder (taken m pending) g key value

-- whether key `k` is at or above `start`, and below `end`; a bound that is missing excludes no key
abbrev pub is_within : Option (List ℕ) → Option (List ℕ) → List ℕ → Bool
is_within start end k = is_from start k && is_below end k

-- `es` lists the keys of group `g` from `start` on and below `end` that have a value in the contents `m`, with these
-- values. Each key is there once, in the order of the keys' bytes.
pub record AreKeysOf (m : LogMap) (g : ℕ) (start end : Option (List ℕ)) (es : List (List ℕ × List ℕ))
    : Type 0 where
  pub rising : IsStrictlySortedBy (slice_cmp nat_cmp) (keys_of es)
  pub inside : (k : List ℕ) → is_within start end k ≡ true → StandsUnder m g k (lookup (bytes_eq k) es)
  pub outside : (k : List ℕ) → is_within start end k ≡ false → lookup (bytes_eq k) es ≡ None

-- The read returned in `es` the keys of group `g` from `start` on and below `end`, with their values. They are all such
-- keys of the log's contents after the pending batches.
pub record ReadsKeys (e : EngineState) (g : ℕ) (start end : Option (List ℕ)) (es : List (List ℕ × List ℕ))
    : Type 0 where
  pub shown : ListsAll (values_within start end (e.tables g)) es
  pub exact : (home : LogDirectories) (m : LogMap) (pending : List LogRecordValue) → Represents home e m pending
      → AreKeysOf (taken m pending) g start end es

-- what the tables show of first and last indexes, values and keys is right for the log's contents
pub record TablesTell : Type 0 where
  pub first : (e : EngineState) (g : ℕ) → ReadsFirst e g (first_of (e.tables g))
  pub last : (e : EngineState) (g : ℕ) → ReadsLast e g (last_of (e.tables g))
  pub value : (e : EngineState) (g : ℕ) (key : List ℕ) → ReadsValue e g key (bytes_held ((e.tables g).held key))
  pub keys : (e : EngineState) (g : ℕ) (start end : Option (List ℕ)) (es : List (List ℕ × List ℕ))
      → ListsAll (values_within start end (e.tables g)) es → ReadsKeys e g start end es
