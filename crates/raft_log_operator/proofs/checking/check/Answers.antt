use Rattle.raft_log_operator.proofs.SoundLemmas.{intact_log}
use Rattle.raft_log_operator.proofs.checking.check.Goals as goal

pub returns-then-are_none : goal.returns-then-are_none
returns-then-are_none g c = λ same.
    intact_log c.args.place.now (g.F.FileSystem.disk c.args.files.now) c.in_ok-faults.faults c.in_ok-faults.ensures (c.are_none.ensures.0 c.if-are_none.true)
