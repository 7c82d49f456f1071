-- A write of the batch `b`, with a sync if `sync` is true: the engine's state `s` before it and `t` after it, and the
-- contents of its log, whether the write succeeds or fails.
use Rattle.std.specs.Prelude.{◌≡◌, ◌⊎◌, ◌^◌, ◌≤◌, ◌↔◌, IsTrue, ℕ, Bool, true, false, None, List, [], ◌∷◌, ◌++◌}
use Rattle.raft_log_model_laws.specs.Item.{Tagged}
use Rattle.raft_log_model_laws.specs.Groups.{of_group, taken}
use Rattle.raft_log_fs.specs.Causes.{Fails, IsLater}
use Rattle.raft_log_record_base.specs.declared.errors.Error.{Error}
use Rattle.raft_log_record_base.specs.declared.errors.Error.TheVariants as errors
use Rattle.raft_log_record_base.specs.declared.pipe_log.FileBlockHandle.{FileBlockHandle}
use Rattle.raft_log_record_frames.specs.Meaning.{tagged_items}
use Rattle.raft_log_record_frames.specs.Record.{record_len}
use Rattle.raft_log_record_batches.specs.Batch.{Batch, IsButBuffer, IsReadyForEach, emptied}
use Rattle.raft_log_block_cache.specs.Signing.{signed_for}
use Rattle.raft_log_extents.specs.declared.place.Place.{Place}
use Rattle.raft_log_memtable_index.specs.Shown.{Shown}
use Rattle.raft_log_block_cache.specs.raft_log_memtables.specs.Batch.{MayFollowAll, all_shown, counts_at_end}
use Rattle.raft_log_block_cache.specs.Written.{placed_items}
use Rattle.raft_log_block_cache.specs.raft_log_dual_pipes.specs.Pipes.{LogRecordValue}
use Rattle.raft_log_block_cache.specs.raft_log_dual_pipes.specs.Numbers.{HasLastNumber}
use Rattle.raft_log_machine_laws.specs.Calls.Which.{InAppend}
use Rattle.raft_log_engine_laws.specs.EngineState.{IsWellMarked, IsWritable, KeepsOrForgets, LogDirectories, LogMap, EngineState, has_failed, said_of}
use Rattle.raft_log_engine_laws.specs.Syncing.{RunsOnSame, SyncsAppend}
use Rattle.raft_log_engine_laws.specs.Trying.{TriesTwiceInVain}
use Rattle.raft_log_block_cache.specs.raft_log_file_pipe.specs.Appending.{SaysTryAgain}
use Rattle.raft_log_engine_laws.specs.Holding.{EndsAt, Represents, IsRecoverableAs, RunsEnding}

-- the items of a batch that was written at `block`, each entry with its location there
abbrev pub items_at : FileBlockHandle → Batch → List (Tagged Place (List ℕ))
items_at block b = placed_items block b.items b.entries

-- A batch that isn't empty was written at `block`, and the tables applied it under the number of its file. It is the
-- last batch of the log, and joins the pending ones. A prefix of these may be durable already. If a sync was requested,
-- all of them are.
pub record Writes (b : Batch) (sync : Bool) (s t : EngineState) : Type 0 where
  pub block : FileBlockHandle
  pub some : b.items ≡ [] → ⊥
  pub lived : has_failed s ≡ false
  pub alive : has_failed t ≡ false
  pub tables : t.tables ≡ all_shown block.id.seq s.tables (items_at block b)
  pub counts : (g : ℕ) → t.counts g ≡ counts_at_end (s.counts g) (of_group g (items_at block b))
  pub cache : KeepsOrForgets s t
  pub later : IsLater s.pipes.disk t.pipes.disk
  pub log : (home : LogDirectories) (m : LogMap) (pending : List LogRecordValue) → Represents home s m pending
      → RunsEnding home t.pipes m (pending ++ said_of b ∷ [])
  pub holds : (home : LogDirectories) (m : LogMap) (pending : List LogRecordValue) → Represents home s m pending
      → EndsAt home t m (pending ++ said_of b ∷ [])
  pub synced : sync ≡ true → (home : LogDirectories) (m : LogMap) (pending : List LogRecordValue) → Represents home s m pending
      → Represents home t (taken m (pending ++ said_of b ∷ [])) []

-- The batch is empty, so nothing is written. If a sync was requested, Append is synced.
abbrev pub WritesNothing : Bool → EngineState → EngineState → Type 0
WritesNothing true s t = SyncsAppend s t
WritesNothing false s t = (t ≡ s) × (has_failed s ≡ false)

-- a batch was written, and its record has `len` bytes; an empty batch has no record, and `len` is 0
abbrev pub WritesBytes : Batch → Bool → ℕ → EngineState → EngineState → Type 0
WritesBytes b sync len s t = ((b.items ≡ []) × (len ≡ 0) × WritesNothing sync s t)
    ⊎ (IsReadyForEach len b.items b.entries × Writes b sync s t)

-- The errors with which a write rejects a batch before anything is done:
-- - `Hole`: its entries would leave a hole after those that the tables show, or an index would be 2 ^ 64 - 1 or more
-- - `Full`: its record would have 2 ^ 56 bytes or more
-- - `InvalidArgument`: it was signed or written already, or its marks of an atomic group are broken
-- - `Memory`: memory ran out
abbrev pub IsUnfit : Batch → (ℕ → Shown) → Error → Type 0
IsUnfit b v errors.Hole = MayFollowAll v (tagged_items (λ e. e) b.items) → ⊥
IsUnfit b v errors.Full = 2 ^ 56 ≤ record_len b.items b.entries
IsUnfit b v (errors.InvalidArgument text) = IsWritable b.state → IsWellMarked b → ⊥
IsUnfit b v errors.Memory = Unit {0}
IsUnfit b v _ = ⊥

-- What is true after an append of the batch failed, by the error:
-- - `Io`, `TryAgain`: a file system call failed; the record was truncated away, and all earlier batches are durable
-- - `NumberRange`, `Memory`: the record is not in the log; a prefix of the pending batches may have been synced
-- - `Failed`: a file system call failed, and the engine has failed; its files can be opened, with the batch or without
--   it
abbrev pub Leaves : LogDirectories → Batch → LogMap → List LogRecordValue → EngineState → EngineState → Error → Type 0
Leaves home b m pending s t (errors.Io kind) =
    Fails s.pipes.disk t.pipes.disk × Represents home t (taken m pending) []
Leaves home b m pending s t (errors.TryAgain text) =
    Fails s.pipes.disk t.pipes.disk × Represents home t (taken m pending) []
Leaves home b m pending s t errors.NumberRange = EndsAt home t m pending
Leaves home b m pending s t errors.Memory = EndsAt home t m pending
Leaves home b m pending s t errors.Failed = Fails s.pipes.disk t.pipes.disk
    × (IsRecoverableAs home t.pipes.disk m pending ⊎ IsRecoverableAs home t.pipes.disk m (pending ++ said_of b ∷ []))
Leaves home b m pending s t _ = ⊥

-- An append of the batch failed. Unless the engine has failed now, its tables are unchanged, and no block is cached.
-- `TryAgain` is returned only after two tries. `NumberRange` is returned only if Append's active file has the last
-- number that a file name can have.
pub record PipesRefused (b : Batch) (error : Error) (s t : EngineState) : Type 0 where
  pub lived : has_failed s ≡ false
  pub tells : IsTrue (has_failed t) ↔ (error ≡ errors.Failed)
  pub same : has_failed t ≡ false → RunsOnSame s t
  pub forgets : has_failed t ≡ false → t.cache.place ≡ None
  pub tries : SaysTryAgain error → TriesTwiceInVain (signed_for b) s.pipes t.pipes
  pub range : error ≡ errors.NumberRange → (home : LogDirectories) (m : LogMap) (pending : List LogRecordValue)
      → Represents home s m pending → HasLastNumber InAppend t.pipes
  pub later : IsLater s.pipes.disk t.pipes.disk
  pub leaves : (home : LogDirectories) (m : LogMap) (pending : List LogRecordValue) → Represents home s m pending
      → Leaves home b m pending s t error

-- A write of the batch failed with `error`. There are three cases:
-- - the write rejected the batch, and nothing changed
-- - the engine had failed before, and nothing changed
-- - an append of the batch failed
abbrev pub NotWritten : Batch → Error → EngineState → EngineState → Type 0
NotWritten b error s t = (IsUnfit b s.tables error × (t ≡ s))
    ⊎ ((error ≡ errors.Failed) × (has_failed s ≡ true) × (t ≡ s))
    ⊎ PipesRefused b error s t

-- the batch after its write: an empty one is unchanged, and any other was emptied
abbrev pub IsEmptied : Batch → Batch → Type 0
IsEmptied old new = ((old.items ≡ []) × (new ≡ old)) ⊎ IsButBuffer (emptied old) new

-- the batch has the same items and entries, but its record may have been encoded
abbrev pub IsBatchKept : Batch → Batch → Type 0
IsBatchKept old new = new ≡ record old { state = new.state; buffer = new.buffer }

-- after a failed write the batch is kept; if the error is `Failed`, it may have been emptied instead
abbrev pub IsKeptUnlessFailed : Error → Batch → Batch → Type 0
IsKeptUnlessFailed error old new = IsBatchKept old new ⊎ ((error ≡ errors.Failed) × IsButBuffer (emptied old) new)
