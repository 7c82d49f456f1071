-- Conditions under which no write and no purge fails with `Full`: no record would be too long.
use Rattle.std.specs.Prelude.{◌≡◌, ◌≢◌, ◌<◌, ◌≤◌, ◌^◌, ◌++◌, ◌+◌, ℕ, Bool, false, List, [], ◌∷◌, length, None}
use Rattle.raft_log_model_laws.specs.Item.Item.{Put}
use Rattle.raft_log_model_laws.specs.Item.Record.{Plain}
use Rattle.raft_log_model_laws.specs.Groups.{appended, taken}
use Rattle.raft_log_record_base.specs.declared.errors.Error.{Error}
use Rattle.raft_log_record_base.specs.declared.errors.Error.TheVariants as errors
use Rattle.raft_log_record_items.specs.declared.item.LogItem.{LogItem}
use Rattle.raft_log_record_batches.specs.Batch.{Batch}
use Rattle.raft_log_record_batches.specs.Bounds.{batch_bound, record_bound}
use Rattle.raft_log_block_cache.specs.raft_log_dual_pipes.specs.Pipes.{LogRecordValue}
use Rattle.raft_log_memtable_index.specs.Shown.{Shown}
use Rattle.raft_log_engine_laws.specs.EngineState.{LogDirectories, LogMap, EngineState, has_failed}
use Rattle.raft_log_engine_laws.specs.Writing.{NotWritten, Writes}
use Rattle.raft_log_purge_copy.specs.Lengths.{HasLongGroup}
use Rattle.raft_log_purge_copy.specs.Owed.{OweNoMore, SaysMarks}
use Rattle.raft_log_purge_copy.specs.Reasons.{HasPurgeReason}
use Rattle.raft_log_purge_copy.specs.Rewriting.{OweNothing}
use Rattle.raft_log_purge.specs.Lengths.{AreKnown, AreModest, AreShortRuns, HasLog, pairs_bound, puts_of}
use Rattle.raft_log_purge.specs.Marks.{CameOf}

-- If the record of a batch has fewer than 2 ^ 56 bytes by its bound, a write of the batch never fails with `Full`. The
-- engine must have a log (`HasLog`).
abbrev pub BoundedBatchesAreNotFull : Type 0
BoundedBatchesAreNotFull = (b : Batch) (error : Error) (s t : EngineState) → HasLog s → batch_bound b < 2 ^ 56
    → NotWritten b error s t → error ≢ errors.Full

-- If the groups of a log's contents are modest in size, as `AreModest` says, no record of what one group has is too
-- long.
abbrev pub ModestLogsMakeRecords : Type 0
ModestLogsMakeRecords = (m : LogMap) → AreModest m → HasLongGroup m → ⊥

-- The groups of a log's contents are modest in size, if all their keys and values are known (`AreKnown`). Those known
-- of each group must take less than 2 ^ 54 bytes together, by the bound `pairs_bound`.
abbrev pub KnownLogsAreModest : Type 0
KnownLogsAreModest = (m : LogMap) (known : ℕ → List (List ℕ × List ℕ)) → AreKnown m known
    → ((g : ℕ) → pairs_bound (known g) < 2 ^ 54) → AreModest m

-- How the known keys and values (`AreKnown`) follow the log. For an empty log, none need be known. After a batch whose
-- runs of entries are short, the keys and values that it puts are known too.
pub record KnownPairsGrow : Type 0 where
  pub none : AreKnown (λ g s. None) (λ g. [])
  pub more : (m : LogMap) (known : ℕ → List (List ℕ × List ℕ)) (said : LogRecordValue) → AreKnown m known
      → ((g : ℕ) → AreShortRuns (appended g (said ∷ [])))
      → AreKnown (taken m (said ∷ [])) (λ g. known g ++ puts_of (appended g (said ∷ [])))

-- A log with a single value has modest groups, if the value and its key have less than 2 ^ 53 bytes together.
abbrev pub OneValueIsModest : Type 0
OneValueIsModest = (g : ℕ) (k value : List ℕ) → length k + length value < 2 ^ 53
    → AreModest (taken (λ h s. None) (Plain (record { group = g; item = Put k value } ∷ []) ∷ []))

-- The record of the owed tombstones is, by its bound, no longer than the record of the items from which they came.
abbrev pub MarksTakeNoMore : Type 0
MarksTakeNoMore = (items : List LogItem) (v : ℕ → Shown) (b : Batch) → CameOf items v → SaysMarks v b
    → batch_bound b ≤ record_bound items []

-- From which items the owed tombstones came:
-- - If no tombstone is owed, no items are needed.
-- - A batch that is written adds its items to those needed.
-- - A batch that isn't written adds none, unless the engine fails.
-- - A call that makes no further tombstone owed, such as a purge, adds none.
pub record MarksComeOfBatches : Type 0 where
  pub none : (v : ℕ → Shown) → OweNothing v → CameOf [] v
  pub written : (items : List LogItem) (b : Batch) (sync : Bool) (s t : EngineState) → CameOf items s.tables
      → Writes b sync s t → CameOf (items ++ b.items) t.tables
  pub unwritten : (items : List LogItem) (b : Batch) (error : Error) (s t : EngineState) → CameOf items s.tables
      → NotWritten b error s t → has_failed t ≡ false → CameOf items t.tables
  pub purged : (items : List LogItem) (v w : ℕ → Shown) → CameOf items v → OweNoMore v w → CameOf items w

-- A purge never fails with `Full` if:
-- - the groups of the log's contents are modest in size
-- - the tombstones owed before it came from items whose record has less than 2 ^ 56 bytes by its bound
abbrev pub ModestLogsArePurged : Type 0
ModestLogsArePurged = (home : LogDirectories) (m : LogMap) (items : List LogItem) (error : Error) (s t : EngineState)
    → AreModest m → CameOf items s.tables → record_bound items [] < 2 ^ 56
    → HasPurgeReason home m error s t → error ≢ errors.Full
