use Rattle.raft_log_replay_context.proofs.Contexts.{over_means, over_recovers}
use Rattle.raft_log_replay_context.proofs.laws.merged_tables_are_recovered.Goals as goal

pub returns : goal.returns
returns g c = record { means = over_means; recovered = over_recovers }
