use Rattle.raft_log_memtables.proofs.Bare.{uncounted_bare}
use Rattle.raft_log_memtables.proofs.laws.nothing_stands_uncounted.Goals as goal

pub returns : goal.returns
returns c = uncounted_bare
