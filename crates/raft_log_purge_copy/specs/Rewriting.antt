-- Entries that a group has in Append are copied to Rewrite, batch after batch.
use Rattle.std.specs.Prelude.{◌≡◌, ◌⊎◌, ◌↔◌, IsTrue, ℕ, Bool, true, false, List, [], Some, length}
use Rattle.raft_log_fs.specs.Causes.{IsLater}
use Rattle.raft_log_record_base.specs.declared.errors.Error.{Error}
use Rattle.raft_log_record_base.specs.declared.errors.Error.TheVariants as errors
use Rattle.raft_log_record_items.specs.declared.entry.EntryIndex.{EntryIndex}
use Rattle.raft_log_machine_laws.specs.Whereabouts.{OwesNothing}
use Rattle.raft_log_memtable_index.specs.Shown.{Shown, whereabouts}
use Rattle.raft_log_record_batches.specs.Batch.{Batch}
use Rattle.raft_log_record_batches.specs.Entries.{indexes_of}
use Rattle.raft_log_engine_laws.specs.EngineState.{LogDirectories, LogMap, EngineState, has_failed}
use Rattle.raft_log_engine_laws.specs.Holding.{Represents, IsRecoverableAs}
use Rattle.raft_log_purge_copy.specs.Copies.{MovesCopies}
use Rattle.raft_log_purge_copy.specs.Entries.{AreNext, IsRunBatch}
use Rattle.raft_log_purge_copy.specs.Moving.{Advances}
use Rattle.raft_log_purge_copy.specs.Reasons.{GivesReason}

-- no group owes a tombstone to Rewrite
abbrev pub OweNothing : (ℕ → Shown) → Type 0
OweNothing v = (g : ℕ) → OwesNothing (whereabouts (v g))

-- if the log had the contents `m` in `s`, with no batch pending and no tombstone owed, it still has them in `t`
abbrev pub StaysHeld : EngineState → EngineState → Type 0
StaysHeld s t = OweNothing s.tables → (home : LogDirectories) (m : LogMap) → Represents home s m [] → Represents home t m []

-- Let the log have the contents `m` in `s`, with no batch pending and no tombstone owed. It still has them in `t`; or
-- the error is `Failed`, and an open of its files finds them.
abbrev pub StaysOrIsLeft : Error → EngineState → EngineState → Type 0
StaysOrIsLeft error s t = OweNothing s.tables → (home : LogDirectories) (m : LogMap) → Represents home s m []
    → Represents home t m [] ⊎ ((error ≡ errors.Failed) × IsRecoverableAs home t.pipes.disk m [])

-- The first entries that the group has in Append, at least one, were copied to Rewrite in one record. They were in
-- files up to the gate. Nothing else changed in the tables.
pub record CopiesEntries (group gate : ℕ) (s t : EngineState) : Type 0 where
  pub entries : List EntryIndex
  pub next : AreNext gate (s.tables group) entries
  pub some : entries ≡ [] → ⊥
  pub bytes : List (List ℕ)
  pub run : Batch
  pub is : IsRunBatch group (indexes_of entries) bytes run
  pub moved : MovesCopies (Some gate) run (record s { cache = t.cache }) t
  pub advances : Advances group (length entries) s.tables t.tables
  pub holds : StaysHeld s t

-- `true`: the first entries that the group has in Append, in files up to the gate, were copied to Rewrite. `false`:
-- there are none, and nothing was done.
abbrev pub CopiesIfAny : ℕ → ℕ → Bool → EngineState → EngineState → Type 0
CopiesIfAny group gate true s t = CopiesEntries group gate s t
CopiesIfAny group gate false s t = (t ≡ s) × AreNext gate (s.tables group) []

-- The group's entries weren't copied, and the tables are unchanged. The error says why.
pub record FailsToCopyEntries (error : Error) (s t : EngineState) : Type 0 where
  pub same : t ≡ record s { pipes = t.pipes; cache = t.cache }
  pub tells : has_failed s ≡ false → IsTrue (has_failed t) ↔ (error ≡ errors.Failed)
  pub later : IsLater s.pipes.disk t.pipes.disk
  pub remains : StaysOrIsLeft error s t
  pub cause : GivesReason error s t
