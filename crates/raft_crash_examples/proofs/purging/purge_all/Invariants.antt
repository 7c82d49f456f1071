use Rattle.raft_log_engine.specs.raft_log_engine_core.specs.Reads.{shows_of}
use Rattle.raft_crash_examples.specs.Purging.{KeepsTheMap}
use Rattle.raft_crash_examples.proofs.purging.purge_all.Given as goal

-- so do the purges so far
abbrev pub invariant-loop-which : goal.invariant-loop-which
invariant-loop-which g l = KeepsTheMap (shows_of g.P.PipeLog.shown l.fn.engine) (shows_of g.P.PipeLog.shown l.engine)
