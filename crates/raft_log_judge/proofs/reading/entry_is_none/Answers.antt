use Rattle.std.proofs.Common.{None}
use Rattle.raft_log_judge.proofs.Supporting.{entry_read}
use Rattle.raft_log_judge.proofs.reading.entry_is_none.Goals as goal

pub returns : goal.returns
returns c = rw c.is_entry.ensures (entry_read c.args.batches.now c.args.group c.args.index None)
