-- Bounds on the contents of an engine's log, such that no record of them is too long.
use Rattle.std.specs.Prelude.{◌≡◌, ◌<◌, ◌≤◌, ◌+◌, ◌^◌, ℕ, List, [], ◌∷◌, Some, length, slice_get, sum_by}
use Rattle.std.specs.Cmp.Lexicographic.{slice_cmp}
use Rattle.std.specs.List.{Contains}
use Rattle.std.specs.List.Sorted.{IsStrictlySortedBy}
use Rattle.std.specs.Map.{keys_of}
use Rattle.std.specs.Ordering.{nat_cmp}
use Rattle.raft_log_model_laws.specs.Item.{Item}
use Rattle.raft_log_model_laws.specs.Item.Item.{Run, Put}
use Rattle.raft_log_model_laws.specs.Meaning.Slot.{Index, Key}
use Rattle.raft_log_model_laws.specs.Meaning.Content.{Entry, Value}
use Rattle.raft_log_record_batches.specs.Batch.{max_entries_len}
use Rattle.raft_log_block_cache.specs.raft_log_dual_pipes.specs.Pipes.{LogRecordValue}
use Rattle.raft_log_engine_laws.specs.EngineState.{LogDirectories, LogMap, EngineState}
use Rattle.raft_log_engine_laws.specs.Holding.{Represents}
use Rattle.raft_log_purge_copy.specs.Lengths.{AreValuesIn}

-- the engine's log has some contents, and some pending batches after these
abbrev pub HasLog : EngineState → Type 0
HasLog s = (home : LogDirectories) × (m : LogMap) × (pending : List LogRecordValue) × Represents home s m pending

-- an upper bound of the bytes that keys and values take in a record: their own, and 32 for each pair
abbrev pub pairs_bound : List (List ℕ × List ℕ) → ℕ
pairs_bound pairs = sum_by (λ e. 32 + length e.0 + length e.1) pairs

-- The groups of the contents `m` are modest in size. No entry has an index of 2 ^ 52 or above, or more bytes than a
-- batch may have. The keys and values of each group take less than 2 ^ 54 bytes together, by the bound `pairs_bound`.
pub record AreModest (m : LogMap) : Type 0 where
  pub entries : (g i : ℕ) (bytes : List ℕ) → m g (Index i) ≡ Some (Entry bytes)
      → (i < 2 ^ 52) × (length bytes ≤ max_entries_len)
  pub values : (g : ℕ) (pairs : List (List ℕ × List ℕ)) → AreValuesIn m g pairs
      → IsStrictlySortedBy (slice_cmp nat_cmp) (keys_of pairs) → pairs_bound pairs < 2 ^ 54

-- What is known of the contents `m`:
-- - No entry has an index of 2 ^ 52 or above, or more bytes than a batch may have.
-- - For each group, the list `known` has all keys of the group with their values, and perhaps other pairs.
pub record AreKnown (m : LogMap) (known : ℕ → List (List ℕ × List ℕ)) : Type 0 where
  pub entries : (g i : ℕ) (bytes : List ℕ) → m g (Index i) ≡ Some (Entry bytes)
      → (i < 2 ^ 52) × (length bytes ≤ max_entries_len)
  pub values : (g : ℕ) (k value : List ℕ) → m g (Key k) ≡ Some (Value value) → Contains (known g) (k, value)

-- the keys and values that these items put
abbrev pub puts_of : List (Item (List ℕ) (List ℕ)) → List (List ℕ × List ℕ)
puts_of [] = []
puts_of (Put k value ∷ xs) = (k, value) ∷ puts_of xs
puts_of (_ ∷ xs) = puts_of xs

-- If the item is a run of entries, the index after its last entry is at most 2 ^ 52. No entry of it has more bytes than
-- a batch may have.
abbrev pub IsShortRun : Item (List ℕ) (List ℕ) → Type 0
IsShortRun (Run f es) = (f + length es ≤ 2 ^ 52)
    × ((i : ℕ) (bytes : List ℕ) → slice_get es i ≡ Some bytes → length bytes ≤ max_entries_len)
IsShortRun _ = Unit {0}

-- each run of entries among the items is short (`IsShortRun`)
abbrev pub AreShortRuns : List (Item (List ℕ) (List ℕ)) → Type 0
AreShortRuns [] = Unit {0}
AreShortRuns (x ∷ xs) = IsShortRun x × AreShortRuns xs
