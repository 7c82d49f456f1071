-- The first part or a middle part of an atomic group is written to Rewrite. The log keeps its contents, whether the
-- write succeeds or fails.
use Rattle.std.specs.Prelude.{ℕ, []}
use Rattle.raft_log_record_base.specs.declared.errors.Error.{Error}
use Rattle.raft_log_record_base.specs.declared.errors.Error.TheVariants as errors
use Rattle.raft_log_record_base.specs.declared.pipe_log.FileBlockHandle.{FileBlockHandle}
use Rattle.raft_log_record_frames.specs.declared.status.AtomicGroupStatus.TheVariants.{Begin, Middle}
use Rattle.raft_log_record_batches.specs.Batch.{Batch}
use Rattle.raft_log_block_cache.specs.Signing.{signed_for}
use Rattle.raft_log_machine_laws.specs.Calls.Which.{InRewrite}
use Rattle.raft_log_block_cache.specs.raft_log_dual_pipes.specs.Calls.{AppendsTo, FailsToAppendTo, SyncsQueue}
use Rattle.raft_log_engine_laws.specs.EngineState.{LogDirectories, LogMap, EngineState}
use Rattle.raft_log_engine_laws.specs.Holding.{Represents}
use Rattle.raft_log_engine_laws.specs.Rewriting.{RewriteLeaves}
use Rattle.raft_log_engine_laws.specs.Settled.{SameTables}
use Rattle.raft_log_engine_laws.specs.Parts.{HoldsInGroup, IsGroupPart, UnendedGroup, begun_by, gone_on_by}

-- The first part (`begins`) or a middle part (`goes_on`) of an atomic group was written to Rewrite. The group is open,
-- with this part as its last one, and the log has the same contents.
pub record WrittenPartsKeepTheMap : Type 0 where
  pub begins : (home : LogDirectories) (e t : EngineState) (number : ℕ) (b : Batch) (block : FileBlockHandle) (m : LogMap)
      → Represents home e m [] → IsGroupPart number Begin b
      → AppendsTo InRewrite (signed_for b) block e.pipes t.pipes
      → SameTables e t → HoldsInGroup home t m (begun_by number (record { block = block; batch = b }))
  pub goes_on : (home : LogDirectories) (e t : EngineState) (o : UnendedGroup) (b : Batch) (block : FileBlockHandle)
      (m : LogMap) → HoldsInGroup home e m o → IsGroupPart o.number Middle b
      → AppendsTo InRewrite (signed_for b) block e.pipes t.pipes → SameTables e t
      → HoldsInGroup home t m (gone_on_by o (record { block = block; batch = b }))

-- the errors of an append after which the queue's records are the same: `NumberRange` and `Memory`
abbrev pub LeavesRecords : Error → Type 0
LeavesRecords errors.NumberRange = Unit {0}
LeavesRecords errors.Memory = Unit {0}
LeavesRecords _ = ⊥

-- An append of the first part or a middle part of an atomic group failed. If no more of the group is written, the log
-- is as after any failed append to Rewrite (`RewriteLeaves`). After `NumberRange` or `Memory`, a group that was open is
-- still open, and may continue (`goes_on`).
pub record RefusedPartsKeepTheMap : Type 0 where
  pub begins : (home : LogDirectories) (e t : EngineState) (number : ℕ) (b : Batch) (m : LogMap) (error : Error)
      → Represents home e m [] → IsGroupPart number Begin b → SameTables e t
      → FailsToAppendTo InRewrite (signed_for b) error e.pipes t.pipes → RewriteLeaves home m t error
  pub given_up : (home : LogDirectories) (e t : EngineState) (o : UnendedGroup) (b : Batch) (m : LogMap) (error : Error)
      → HoldsInGroup home e m o → IsGroupPart o.number Middle b → SameTables e t
      → FailsToAppendTo InRewrite (signed_for b) error e.pipes t.pipes → RewriteLeaves home m t error
  pub goes_on : (home : LogDirectories) (e t : EngineState) (o : UnendedGroup) (b : Batch) (m : LogMap) (error : Error)
      → HoldsInGroup home e m o → IsGroupPart o.number Middle b → SameTables e t → LeavesRecords error
      → FailsToAppendTo InRewrite (signed_for b) error e.pipes t.pipes → HoldsInGroup home t m o

-- if an atomic group is open, it is still open after a sync of Rewrite, and the log has the same contents
abbrev pub SyncsLeaveGroupsOpen : Type 0
SyncsLeaveGroupsOpen = (home : LogDirectories) (e t : EngineState) (o : UnendedGroup) (m : LogMap) → HoldsInGroup home e m o
    → SameTables e t → SyncsQueue InRewrite e.pipes t.pipes → HoldsInGroup home t m o
