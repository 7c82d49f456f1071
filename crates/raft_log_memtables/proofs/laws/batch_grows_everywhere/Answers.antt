use Rattle.raft_log_memtables.proofs.Applied.{all_grow, all_meant, all_orderly}
use Rattle.raft_log_memtables.proofs.laws.batch_grows_everywhere.Goals as goal

pub returns : goal.returns
returns g c = record { grows = all_grow; orderly = all_orderly; means = all_meant }
