use Rattle.raft_log_engine_core.proofs.Hearing.{batches_hold_nothing_back}
use Rattle.raft_log_engine_core.proofs.laws.batches_hold_nothing_back.Goals as goal

pub returns : goal.returns
returns g c = batches_hold_nothing_back g.P.PipeLog.hears
