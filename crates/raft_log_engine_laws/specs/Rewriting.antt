-- Records that are written to Rewrite: owed tombstones, and copies of entries and values. The log keeps its contents,
-- whether the write succeeds or fails. The gate is the last file of Append from which a purge copies; without a gate,
-- it copies only what is in Rewrite already.
use Rattle.std.specs.Prelude.{◌≡◌, ℕ, false, Option, List, [], map}
use Rattle.raft_log_model_laws.specs.Item.{Tagged}
use Rattle.raft_log_model_laws.specs.Groups.{of_group}
use Rattle.raft_log_model_laws.specs.Renamed.{renamed_tagged}
use Rattle.raft_log_record_base.specs.declared.errors.Error.{Error}
use Rattle.raft_log_record_base.specs.declared.errors.Error.TheVariants as errors
use Rattle.raft_log_record_base.specs.declared.pipe_log.FileBlockHandle.{FileBlockHandle}
use Rattle.raft_log_record_frames.specs.declared.marking.Marking.TheVariants.{Unmarked}
use Rattle.raft_log_record_frames.specs.Marking.{marking_of_items}
use Rattle.raft_log_record_frames.specs.Meaning.{tagged_items}
use Rattle.raft_log_record_batches.specs.Batch.{Batch}
use Rattle.raft_log_block_cache.specs.Signing.{SaysItself, signed_for}
use Rattle.raft_log_machine_laws.specs.Calls.Which.{InRewrite}
use Rattle.raft_log_memtable_index.specs.Shown.{Shown}
use Rattle.raft_log_memtable_index.specs.Bridge.{Located, in_queue, unmarked}
use Rattle.raft_log_block_cache.specs.raft_log_memtables.specs.Owing.{AreOwedAt}
use Rattle.raft_log_block_cache.specs.raft_log_memtables.specs.Rewriting.{AreCopies, all_rewritten}
use Rattle.raft_log_record_batches.specs.Places.{entry_bytes}
use Rattle.raft_log_block_cache.specs.raft_log_memtables.specs.Views.{AreMeant}
use Rattle.raft_log_engine_laws.specs.Writing.{items_at}
use Rattle.raft_log_block_cache.specs.raft_log_dual_pipes.specs.Calls.{AppendsTo, FailsToAppendTo}
use Rattle.raft_log_engine_laws.specs.EngineState.{LogDirectories, IsLaidOut, KeepsOrForgets, LogMap, EngineState}
use Rattle.raft_log_engine_laws.specs.Holding.{Represents, IsRecoverableAs}
use Rattle.raft_log_engine_laws.specs.Settled.{HoldsSettled, SameTables}

-- the batch may be written to Rewrite and counts by itself: it isn't empty, and it has no mark of an atomic group
pub record CountsAlone (b : Batch) : Type 0 where
  pub some : b.items ≡ [] → ⊥
  pub plain : marking_of_items b.items ≡ Unmarked
  pub says : SaysItself (signed_for b) b
  pub laid : IsLaidOut b

-- What is true after an append to Rewrite failed, by the error. The log's contents are `m` in each case, with no batch
-- pending:
-- - `Io`, `TryAgain`: the record was truncated away, and nothing is pending in either queue
-- - `NumberRange`, `Memory`: the record is not in the log
-- - `Failed`: the engine has failed, and its log's files can be opened; they may have the record
abbrev pub RewriteLeaves : LogDirectories → LogMap → EngineState → Error → Type 0
RewriteLeaves home m t (errors.Io kind) = HoldsSettled home t m
RewriteLeaves home m t (errors.TryAgain text) = HoldsSettled home t m
RewriteLeaves home m t errors.NumberRange = Represents home t m []
RewriteLeaves home m t errors.Memory = Represents home t m []
RewriteLeaves home m t errors.Failed = IsRecoverableAs home t.pipes.disk m []
RewriteLeaves home m t _ = ⊥

-- Tombstones.

-- the batch's items are the tombstones that the groups owe to Rewrite, each of them once
pub record SaysOwed (b : Batch) (v : ℕ → Shown) : Type 0 where
  pub alone : CountsAlone b
  pub owed : (g : ℕ) → AreOwedAt (v g) (of_group g (tagged_items (λ e. e) b.items))

-- If the owed tombstones were written to Rewrite, and the tables no longer owe them, the log has the same contents.
abbrev pub WrittenMarksKeepTheMap : Type 0
WrittenMarksKeepTheMap = (home : LogDirectories) (e t : EngineState) (b : Batch) (block : FileBlockHandle) (m : LogMap)
    → Represents home e m [] → SaysOwed b e.tables → AppendsTo InRewrite (signed_for b) block e.pipes t.pipes
    → t.tables ≡ (λ g. unmarked (e.tables g)) → KeepsOrForgets e t → Represents home t m []

-- If an append of the owed tombstones to Rewrite failed, and the tables still owe them, the log has the same contents.
-- If the engine has failed, the log's files can be opened with these contents.
abbrev pub RefusedMarksKeepTheMap : Type 0
RefusedMarksKeepTheMap = (home : LogDirectories) (e t : EngineState) (b : Batch) (m : LogMap) (error : Error)
    → Represents home e m [] → SaysOwed b e.tables → SameTables e t
    → FailsToAppendTo InRewrite (signed_for b) error e.pipes t.pipes → RewriteLeaves home m t error

-- Copies.

-- the bytes in Rewrite at the locations of the batch's entries are those that were added to the batch
abbrev pub SaysAt : (Located → List ℕ) → FileBlockHandle → Batch → Type 0
SaysAt at block b = map (renamed_tagged (λ p. at (in_queue false p))) (items_at block b)
    ≡ tagged_items (entry_bytes b.entries) b.items

-- The batch's items are copies of entries and values that the tables `v` show of the contents `m`. The gate lets each
-- of these copies move to Rewrite. This holds wherever the batch is written.
abbrev pub HasCopies : Option ℕ → Batch → (ℕ → Shown) → LogMap → Type 0
HasCopies gate b v m = (block : FileBlockHandle) (at : Located → List ℕ) → AreMeant at v m → SaysAt at block b
    → (g : ℕ) → AreCopies at gate block.id.seq (v g) (of_group g (items_at block b))

-- what the tables show of group `g` after the batch of copies was written at `block` and applied
abbrev pub moved_to : Option ℕ → FileBlockHandle → Batch → (ℕ → Shown) → ℕ → Shown
moved_to gate block b v g = all_rewritten gate block.id.seq (v g) (of_group g (items_at block b))

-- After copies were written to Rewrite, and the tables applied them under the number of their file, the log has the
-- same contents.
abbrev pub WrittenCopiesKeepTheMap : Type 0
WrittenCopiesKeepTheMap = (home : LogDirectories) (e t : EngineState) (gate : Option ℕ) (b : Batch) (block : FileBlockHandle)
    (m : LogMap) → Represents home e m [] → CountsAlone b → HasCopies gate b e.tables m
    → AppendsTo InRewrite (signed_for b) block e.pipes t.pipes → t.tables ≡ moved_to gate block b e.tables
    → KeepsOrForgets e t → Represents home t m []

-- If an append of copies to Rewrite failed, and the tables are unchanged, the log has the same contents. If the engine
-- has failed, the log's files can be opened with these contents.
abbrev pub RefusedCopiesKeepTheMap : Type 0
RefusedCopiesKeepTheMap = (home : LogDirectories) (e t : EngineState) (gate : Option ℕ) (b : Batch) (m : LogMap)
    (error : Error) → Represents home e m [] → CountsAlone b → HasCopies gate b e.tables m → SameTables e t
    → FailsToAppendTo InRewrite (signed_for b) error e.pipes t.pipes → RewriteLeaves home m t error
