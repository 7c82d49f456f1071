-- The contract of a replay machine that keeps nothing. Calls use such a machine if they only need to know how the files
-- end.
use Rattle.std.specs.Prelude.{List}
use Rattle.raft_log_record_base.specs.declared.pipe_log.LogQueue.{LogQueue}
use Rattle.raft_log_replay.specs.Machines.{Batch}

-- holds for any batches, as the machine doesn't keep what it read
abbrev pub ReadsAny : LogQueue → List Batch → Type 0
ReadsAny queue batches = Unit {0}

-- holds for no batches, as the machine rejects none
abbrev pub DeclinesNone : LogQueue → List Batch → Type 0
DeclinesNone queue batches = ⊥
