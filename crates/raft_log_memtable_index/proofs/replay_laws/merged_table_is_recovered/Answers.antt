use Rattle.raft_log_memtable_index.proofs.Merging.{means, orderly_merged, recovers}
use Rattle.raft_log_memtable_index.proofs.replay_laws.merged_table_is_recovered.Goals as goal

pub returns : goal.returns
returns g c = record {
  means = means;
  recovered = recovers;
  orderly = λ rewrite append r z h k. orderly_merged r.table z h.queue k.queue h.orderly k.orderly;
}
