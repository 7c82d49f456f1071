use Rattle.std.proofs.Common.{refl}
use Rattle.raft_log_replay_context.proofs.Contexts.{plain_counted}
use Rattle.raft_log_replay_context.proofs.laws.append_counts_at_once.Goals as goal

pub returns : goal.returns
returns c = λ g rs context h. plain_counted g rs (h.plain refl)
