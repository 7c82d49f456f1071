use Rattle.std.proofs.Common.{sym}
use Rattle.raft_log_offline.proofs.Keeping.{passes_item}
use Rattle.raft_log_offline.proofs.checker.ConsistencyChecker.take_item.Goals as goal

pub returns-in-None : goal.returns-in-None
returns-in-None c = passes_item c.args.self.now c.args.item.now (sym c.in-None.ensures)
