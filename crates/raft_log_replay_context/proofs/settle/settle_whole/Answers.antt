use Rattle.std.proofs.Common.{refl}
use Rattle.raft_log_replay_context.proofs.settle.settle_whole.Goals as goal

pub returns-in-None-clause-ok : goal.returns-in-None-clause-ok
returns-in-None-clause-ok c = rw c.in-None.is refl

pub returns-in-Some-clause-ok : goal.returns-in-Some-clause-ok
returns-in-Some-clause-ok c = rw c.in-Some.is c.settle.ensures.ok
