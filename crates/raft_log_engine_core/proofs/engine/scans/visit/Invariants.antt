use Rattle.std.proofs.Common.{length}
use Rattle.raft_log_engine_core.specs.Messages.{CalledAtKey, VisitsMessages}
use Rattle.raft_log_engine_core.proofs.engine.scans.visit.Given as goal

abbrev pub invariant-loop-pair : goal.invariant-loop-pair
invariant-loop-pair g l =
    goal.C-IsAlwaysCallable g l.callback
    × (VisitsMessages g.S.Message.reading (CalledAtKey g.C.FnMut) l.callback l.rest → VisitsMessages g.S.Message.reading (CalledAtKey g.C.FnMut) l.fn.callback l.fn.pairs)

abbrev pub decreases-loop-pair : goal.decreases-loop-pair
decreases-loop-pair g l = length l.rest
