-- Files that are no longer needed leave a queue's live range. The log keeps its contents if the tables show nothing in
-- these files. For Append there is a second condition: no group owes a tombstone to Rewrite.
use Rattle.std.specs.Prelude.{◌≡◌, ℕ, ◌≤◌, None, List, []}
use Rattle.raft_log_record_base.specs.declared.errors.Error.{Error}
use Rattle.raft_log_record_base.specs.declared.errors.Error.TheVariants as errors
use Rattle.raft_log_machine_laws.specs.Whereabouts.{OwesNothing}
use Rattle.raft_log_machine_laws.specs.Calls.{Which}
use Rattle.raft_log_machine_laws.specs.Calls.Which.{InAppend, InRewrite}
use Rattle.raft_log_memtable_index.specs.Shown.{Shown, whereabouts}
use Rattle.raft_log_memtable_index.specs.Noted.{IsLeastInRewrite, start_of}
use Rattle.raft_log_memtable.specs.Files.{IsLeastInAppend}
use Rattle.raft_log_block_cache.specs.raft_log_dual_pipes.specs.Calls.{FailsToPurgeQueue, PurgesQueue}
use Rattle.raft_log_engine_laws.specs.EngineState.{LogDirectories, LogMap, EngineState}
use Rattle.raft_log_engine_laws.specs.Holding.{IsRecoverableAs}
use Rattle.raft_log_engine_laws.specs.Settled.{HoldsSettled}

-- Append's live range may begin at file `n`: no group owes a tombstone to Rewrite, and no entry or value that the
-- tables show in Append is in an earlier file.
abbrev pub AppendMayBegin : ℕ → (ℕ → Shown) → Type 0
AppendMayBegin n v = (g : ℕ) → OwesNothing (whereabouts (v g)) × IsLeastInAppend (v g) n

-- Rewrite's live range may begin at file `n`. No entry or value that the tables show in Rewrite is in an earlier file.
-- If an atomic group may have written one of these entries or values, the atomic group doesn't begin in an earlier file
-- either.
abbrev pub RewriteMayBegin : ℕ → (ℕ → Shown) → Type 0
RewriteMayBegin n v =
    (g : ℕ) → (least : ℕ) × IsLeastInRewrite (v g) least × (n ≤ start_of least (v g).noted)

-- the live range of this queue may begin at file `n`
abbrev pub MayBegin : Which → ℕ → (ℕ → Shown) → Type 0
MayBegin InAppend n v = AppendMayBegin n v
MayBegin InRewrite n v = RewriteMayBegin n v

-- The files of a queue below `n` left the live range, which may begin at `n`. The tables are the same, and no block is
-- cached any more. If nothing was pending before, the log has the same contents, with nothing pending.
abbrev pub PurgesKeepTheMap : Type 0
PurgesKeepTheMap = (which : Which) (home : LogDirectories) (e t : EngineState) (m : LogMap) (n : ℕ) → HoldsSettled home e m
    → MayBegin which n e.tables → t.tables ≡ e.tables → t.cache.place ≡ None → PurgesQueue which n e.pipes t.pipes
    → HoldsSettled home t m

-- What is true after a failed purge of a queue's files, by the error:
-- - `Memory`, `Other`, `NumberRange`: the log has the same contents, and nothing is pending
-- - `Failed`: the log's files can be opened, with the same contents and nothing pending
abbrev pub PurgeLeavesHeld : LogDirectories → LogMap → EngineState → Error → Type 0
PurgeLeavesHeld home m t errors.Memory = HoldsSettled home t m
PurgeLeavesHeld home m t (errors.Other fault) = HoldsSettled home t m
PurgeLeavesHeld home m t errors.NumberRange = HoldsSettled home t m
PurgeLeavesHeld home m t errors.Failed = IsRecoverableAs home t.pipes.disk m []
PurgeLeavesHeld home m t _ = ⊥

-- A purge of a queue's files below `n` failed. The queue's live range may begin at `n`. The tables are the same, and no
-- block is cached. If nothing was pending before, the log has the same contents, with nothing pending. If the engine
-- has failed, its files can be opened with these contents.
abbrev pub RefusedPurgesKeepTheMap : Type 0
RefusedPurgesKeepTheMap = (which : Which) (home : LogDirectories) (e t : EngineState) (m : LogMap) (n : ℕ) (error : Error)
    → HoldsSettled home e m → MayBegin which n e.tables → t.tables ≡ e.tables → t.cache.place ≡ None
    → FailsToPurgeQueue which n error e.pipes t.pipes → PurgeLeavesHeld home m t error
