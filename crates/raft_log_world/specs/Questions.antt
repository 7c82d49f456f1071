-- Laws of the model log that answer a user's questions. Is a synced batch ever lost? Can half a batch be read? What
-- does a failed write leave? What does a purge keep? What does a copy hold?
use Rattle.std.specs.Prelude.{◌≡◌, Bool, true, List, [], ◌∷◌, ◌++◌}
use Rattle.std.specs.Global.{Global}
use Rattle.std.specs.declared.string.String.{String}
use Rattle.raft_log_model_laws.specs.Groups.{taken}
use Rattle.raft_log_world.specs.declared.event.Answer.{Answer}
use Rattle.raft_log_world.specs.declared.event.Answer.TheVariants.{Done, Failed, Refused}
use Rattle.raft_log_world.specs.declared.event.Call.TheVariants.{Purge as PurgeCall, Sync, Write}
use Rattle.raft_log_world.specs.declared.event.Event.{Event}
use Rattle.raft_log_world.specs.declared.event.Event.TheVariants.{Close, Fork, Serve}
use Rattle.raft_log_world.specs.declared.event.Purge.{Purge}
use Rattle.raft_log_world.specs.Explained.{Explains}
use Rattle.raft_log_world.specs.Kept.{IsPart, durable, pending_in, written_in}
use Rattle.raft_log_world.specs.Model.{Answers, BatchRecord, LosesSome, ModelLog}
use Rattle.raft_log_world.specs.Model.ModelLog.{resting}
use Rattle.raft_log_world.specs.Reads.{Contents}

-- the contents that reads of a log return: the durable ones, and then all pending batches
abbrev pub contents_of : ModelLog → Contents
contents_of log = taken (durable log) (pending_in log)

-- The contents of `last` are `m`, and then some of these batches, each of them whole, and in order.
pub record Continues (m : Contents) (batches : List BatchRecord) (last : ModelLog) : Type 0 where
  pub added : List BatchRecord
  pub part : IsPart added batches
  pub contents : contents_of last ≡ taken m added

-- the event makes all batches durable if it succeeds: a write with a sync, a sync, a purge or a close
abbrev pub Syncs : {B C : Type 0} → Event B C → Type 0
Syncs (Serve (Write batch true)) = Unit {0}
Syncs (Serve Sync) = Unit {0}
Syncs (Serve (PurgeCall kind)) = Unit {0}
Syncs Close = Unit {0}
Syncs event = ⊥

-- Let a write with a sync, a sync, a purge or a close succeed. After any later events, the contents are those before
-- this event, then the batch that it wrote, if any, and then some of the batches that later events asked to write.
abbrev pub SyncedBatchesAreKept : Type 0 → Type 0 → Type 0
SyncedBatchesAreKept B C =
    (says : B → BatchRecord) (log next last : ModelLog) (event : Event B C)
    (events : List (Event B C)) (answers : List Answer)
    → Syncs event → Answers says log event Done next → Explains says next events answers last
    → Continues (taken (contents_of log) (written_in says (event ∷ []))) (written_in says events) last

-- After any events, the contents are the durable ones of the beginning, and then whole batches, in order. These are
-- some of the batches that were pending or that the events asked to write.
abbrev pub BatchesAreWhole : Type 0 → Type 0 → Type 0
BatchesAreWhole B C =
    (says : B → BatchRecord) (log last : ModelLog) (events : List (Event B C)) (answers : List Answer)
    → Explains says log events answers last
    → Continues (durable log) (pending_in log ++ written_in says events) last

-- After any events from `log` on that ask for no write and no compaction, the contents are `m`, and then the first few
-- of these batches.
abbrev pub ShowsFirst : {B : Type 0} → Type 0 → (B → BatchRecord) → ModelLog → Contents → List BatchRecord → Type 0
ShowsFirst {B} C says log m batches =
    (events : List (Event B C)) (answers : List Answer) (last : ModelLog)
    → Explains says log events answers last → written_in says events ≡ [] → LosesSome m batches (contents_of last)

-- What a write that fails leaves of its batch:
-- - `refused`: if the engine runs on, the contents are those before the write.
-- - `failed`: suppose the engine fails. Until the next write or compaction, the contents are then the durable ones and
--   the first few of these batches: the pending ones, and after them this write's. So this write's batch is there
--   whole, after all others, or not at all.
pub record LeavesNoTrace {B : Type 0} (C : Type 0) (says : B → BatchRecord) (log next : ModelLog) (batch : B)
    (sync : Bool) : Type 0 where
  pub refused : Answers {C = C} says log (Serve (Write batch sync)) Refused next → contents_of next ≡ contents_of log
  pub failed : Answers {C = C} says log (Serve (Write batch sync)) Failed next
      → ShowsFirst C says next (durable log) (pending_in log ++ says batch ∷ [])

-- each write that fails leaves no trace, as `LeavesNoTrace` says
abbrev pub FailedWritesLeaveNoTrace : Type 0 → Type 0 → Type 0
FailedWritesLeaveNoTrace B C =
    (says : B → BatchRecord) (log next : ModelLog) (batch : B) (sync : Bool) → LeavesNoTrace C says log next batch sync

-- A purge keeps the contents, however it ends.
abbrev pub PurgesKeepContents : Type 0 → Type 0 → Type 0
PurgesKeepContents B C =
    (says : B → BatchRecord) (log next : ModelLog) (kind : Purge) (answer : Answer)
    → Answers {C = C} says log (Serve (PurgeCall kind)) answer next → contents_of next ≡ contents_of log

-- `next` is a copy of the log: all of it is durable. It has the durable contents, and the first few pending batches.
pub record IsCopy (log next : ModelLog) : Type 0 where
  pub rests : next ≡ resting (contents_of next)
  pub contents : LosesSome (durable log) (pending_in log) (contents_of next)

-- A copy that succeeds holds the log, as `IsCopy` says. One that fails leaves the log as it was.
abbrev pub CopiesHoldTheLog : Type 0 → Type 0 → Type 0
CopiesHoldTheLog B C =
    (says : B → BatchRecord) (log next : ModelLog) (target : String Global)
    → (Answers {C = C} says log (Fork target) Done next → IsCopy log next)
    × (Answers {C = C} says log (Fork target) Refused next → next ≡ log)
