use Rattle.raft_log_replay_context.specs.Batches.{HasReadBatches}
use Rattle.raft_log_replay_context.proofs.Alike.{both_read, read_alike}
use Rattle.raft_log_replay_context.proofs.laws.workers_show_the_same.Goals as goal

pub returns : goal.returns
returns g c = λ source one count m n es fs h k.
    let queue = g.S.ReplaySource.queue_of source in
    let both = both_read (g.S.ReplaySource.holds source) one (HasReadBatches queue) count m n es fs h k in
    (read_alike queue both.0.0 m n both.0.1 both.0.2, both.1)
