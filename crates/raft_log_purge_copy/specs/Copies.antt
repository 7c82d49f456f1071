-- A batch of copies of entries and values is written to Rewrite. Then the tables locate these items in Rewrite.
use Rattle.std.specs.Prelude.{◌≡◌, ◌⊎◌, ◌↔◌, IsTrue, ℕ, Option, [], false}
use Rattle.raft_log_fs.specs.Causes.{IsLater}
use Rattle.raft_log_record_base.specs.declared.errors.Error.{Error}
use Rattle.raft_log_record_base.specs.declared.errors.Error.TheVariants as errors
use Rattle.raft_log_record_base.specs.declared.pipe_log.FileBlockHandle.{FileBlockHandle}
use Rattle.raft_log_record_frames.specs.declared.marking.Marking.TheVariants.{Unmarked}
use Rattle.raft_log_record_frames.specs.Marking.{marking_of_items}
use Rattle.raft_log_record_batches.specs.Batch.{Batch}
use Rattle.raft_log_engine_laws.specs.EngineState.{LogDirectories, LogMap, EngineState, has_failed}
use Rattle.raft_log_engine_laws.specs.Holding.{Represents}
use Rattle.raft_log_engine_laws.specs.Rewriting.{HasCopies, moved_to}
use Rattle.raft_log_purge_copy.specs.Parts.{Remains, StaysInFile}
use Rattle.raft_log_purge_copy.specs.Reasons.{HasReason}
use Rattle.raft_log_purge_copy.specs.Refusals.{IsOverlong}

-- The batch was written to Rewrite at `block`, and the tables locate its entries and values there now. The copies are
-- of items in files of Append up to the gate, or in Rewrite if there is no gate. If no batch was pending, and the items
-- are copies (`HasCopies`) without a mark of an atomic group, the log has the same contents.
pub record MovesCopies (gate : Option ℕ) (b : Batch) (s t : EngineState) : Type 0 where
  pub block : FileBlockHandle
  pub alive : has_failed t ≡ false
  pub tables : t.tables ≡ moved_to gate block b s.tables
  pub counts : t.counts ≡ s.counts
  pub cache : t.cache ≡ s.cache
  pub later : IsLater s.pipes.disk t.pipes.disk
  pub stays : marking_of_items b.items ≡ Unmarked → StaysInFile s.pipes t.pipes
  pub holds : marking_of_items b.items ≡ Unmarked → (home : LogDirectories) (m : LogMap) → Represents home s m []
      → HasCopies gate b s.tables m → Represents home t m []

-- the batch was written to Rewrite and applied to the tables; or it is empty, and nothing was done
abbrev pub WritesCopies : Option ℕ → Batch → EngineState → EngineState → Type 0
WritesCopies gate b s t = ((b.items ≡ []) × (t ≡ s)) ⊎ (((b.items ≡ []) → ⊥) × MovesCopies gate b s t)

-- The batch wasn't written, and the tables are unchanged. If it has no mark of an atomic group, and no batch was
-- pending:
-- - Its record would be too long, or the error has a reason that any part of a purge may have.
-- - If its items are copies, the log has the same contents; or the error is `Failed`, and an open finds these contents.
pub record FailsToCopy (gate : Option ℕ) (b : Batch) (error : Error) (s t : EngineState) : Type 0 where
  pub same : t ≡ record s { pipes = t.pipes }
  pub tells : has_failed s ≡ false → IsTrue (has_failed t) ↔ (error ≡ errors.Failed)
  pub later : IsLater s.pipes.disk t.pipes.disk
  pub remains : marking_of_items b.items ≡ Unmarked → (home : LogDirectories) (m : LogMap) → Represents home s m []
      → HasCopies gate b s.tables m → Remains home m t error
  pub cause : marking_of_items b.items ≡ Unmarked → (home : LogDirectories) (m : LogMap) → Represents home s m []
      → IsOverlong b error ⊎ HasReason home m error s t
