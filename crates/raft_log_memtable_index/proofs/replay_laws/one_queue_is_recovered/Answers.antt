use Rattle.raft_log_memtable_index.proofs.Alone.{append_means, append_recovers, rewrite_means, rewrite_recovers}
use Rattle.raft_log_memtable_index.proofs.replay_laws.one_queue_is_recovered.Goals as goal

pub returns : goal.returns
returns g c = record {
  rewrite_means = rewrite_means;
  rewrite_recovered = rewrite_recovers;
  append_means = append_means;
  append_recovered = append_recovers;
}
