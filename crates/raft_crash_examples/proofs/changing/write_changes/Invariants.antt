use Rattle.std.proofs.Common.{drop}
use Rattle.raft_log_engine.specs.raft_log_engine_laws.specs.EngineState.{EngineState}
use Rattle.raft_log_engine.specs.raft_log_engine_core.specs.Reads.{shows_of}
use Rattle.raft_crash_examples.specs.Changing.{ChangesKeys}
use Rattle.raft_crash_examples.proofs.changing.write_changes.Given as goal

-- with the changes that are left, all are written
abbrev pub invariant-loop-change : goal.invariant-loop-change
invariant-loop-change g l = (new : EngineState) → ChangesKeys (drop l.change-index l.changes) (shows_of g.P.PipeLog.shown l.engine) new
    → ChangesKeys l.changes (shows_of g.P.PipeLog.shown l.fn.engine) new
