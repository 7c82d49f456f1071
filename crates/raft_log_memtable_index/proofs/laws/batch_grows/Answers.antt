use Rattle.raft_log_memtable_index.proofs.Grow.{batch_grows, orderly_after}
use Rattle.raft_log_memtable_index.proofs.Meant.{batch_meant}
use Rattle.raft_log_memtable_index.proofs.laws.batch_grows.Goals as goal

pub returns : goal.returns
returns g c = record { grows = batch_grows; orderly = orderly_after; means = batch_meant }
