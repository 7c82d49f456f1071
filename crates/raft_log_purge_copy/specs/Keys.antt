-- Values that a group has in Append are copied to Rewrite.
use Rattle.std.specs.Prelude.{◌≡◌, ◌↔◌, IsTrue, ℕ, false, List, [], Some, map}
use Rattle.raft_log_fs.specs.Causes.{IsLater}
use Rattle.raft_log_record_base.specs.declared.errors.Error.{Error}
use Rattle.raft_log_record_base.specs.declared.errors.Error.TheVariants as errors
use Rattle.raft_log_record_items.specs.Items.{put_item}
use Rattle.raft_log_record_batches.specs.declared.log_batch.BatchState.TheVariants.{Filling}
use Rattle.raft_log_record_batches.specs.Batch.{Batch}
use Rattle.raft_log_memtable_index.specs.Listing.{ListsAll, appended_values}
use Rattle.raft_log_engine_laws.specs.EngineState.{EngineState, has_failed}
use Rattle.raft_log_purge_copy.specs.Copies.{WritesCopies}
use Rattle.raft_log_purge_copy.specs.Owed.{AreNoMarks}
use Rattle.raft_log_purge_copy.specs.Moving.{MovesKeys}
use Rattle.raft_log_purge_copy.specs.Reasons.{GivesReason}
use Rattle.raft_log_purge_copy.specs.Rewriting.{StaysHeld, StaysOrIsLeft}

-- The batch is being filled, and its items put these values under these keys of group `g`. It has no entries and no
-- mark of an atomic group.
pub record IsKeysBatch (g : ℕ) (pairs : List (List ℕ × List ℕ)) (b : Batch) : Type 0 where
  pub state : b.state ≡ Filling
  pub none : b.entries ≡ []
  pub items : b.items ≡ map (λ e. put_item g e.0 e.1) pairs
  pub plain : AreNoMarks b.items

-- All values that the group has in Append, in files up to the gate, were copied to Rewrite in one record. Nothing else
-- changed in the tables. If there were none, nothing was written.
pub record CopiesKeys (group gate : ℕ) (s t : EngineState) : Type 0 where
  pub pairs : List (List ℕ × List ℕ)
  pub all : ListsAll (appended_values gate (s.tables group)) pairs
  pub batch : Batch
  pub is : IsKeysBatch group pairs batch
  pub wrote : WritesCopies (Some gate) batch s t
  pub moves : MovesKeys group gate s.tables t.tables
  pub counts : t.counts ≡ s.counts
  pub alive : has_failed s ≡ false → has_failed t ≡ false
  pub later : IsLater s.pipes.disk t.pipes.disk
  pub holds : StaysHeld s t

-- the group's values weren't copied, and the tables are unchanged; the error says why
pub record FailsToCopyKeys (error : Error) (s t : EngineState) : Type 0 where
  pub same : t ≡ record s { pipes = t.pipes }
  pub tells : has_failed s ≡ false → IsTrue (has_failed t) ↔ (error ≡ errors.Failed)
  pub later : IsLater s.pipes.disk t.pipes.disk
  pub remains : StaysOrIsLeft error s t
  pub cause : GivesReason error s t
