use Rattle.std.proofs.Common.{false}
use Rattle.raft_log_judge.specs.Folds.{wanted}
use Rattle.raft_log_judge.proofs.Supporting.{value_read}
use Rattle.raft_log_judge.proofs.reading.value_is_none.Goals as goal

pub returns : goal.returns
returns c = rw c.is_value.ensures (value_read c.args.batches.now c.args.group c.args.key.now (wanted false c.args.key.now))
