use Rattle.raft_log_offline.proofs.Keeping.{reads_batch}
use Rattle.raft_log_offline.proofs.checker.ConsistencyCheckerReplayMachine.replay.Goals as goal

pub returns-clause-ok : goal.returns-clause-ok
returns-clause-ok c = λ before is. reads_batch c.args._file.queue before c.args._file c.args.items.items c.as_slice.result.now c.args.self.now c.take.new.self c.as_slice.ensures.value c.in_ok-take.ensures is
