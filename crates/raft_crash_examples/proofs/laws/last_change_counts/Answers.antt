use Rattle.raft_crash_examples.proofs.Valued.{last_change_counts}
use Rattle.raft_crash_examples.proofs.laws.last_change_counts.Goals as goal

pub returns : goal.returns
returns c = last_change_counts
