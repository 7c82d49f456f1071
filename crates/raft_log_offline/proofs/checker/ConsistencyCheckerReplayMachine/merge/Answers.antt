use Rattle.raft_log_offline.proofs.Keeping.{reads_later}
use Rattle.raft_log_offline.proofs.checker.ConsistencyCheckerReplayMachine.merge.Goals as goal

pub returns-clause-ok : goal.returns-clause-ok
returns-clause-ok c = λ xs ys is next. reads_later c.args._queue xs ys c.args.self.now c.args.later c.follow_all.new.self c.in_ok-follow_all.ensures is next
