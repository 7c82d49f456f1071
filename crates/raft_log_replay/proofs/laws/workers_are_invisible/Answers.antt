use Rattle.raft_log_replay.proofs.Same.{read_same}
use Rattle.raft_log_replay.proofs.laws.workers_are_invisible.Goals as goal

pub returns : goal.returns
returns g c = λ source one count m n es fs h k.
    read_same (g.S.ReplaySource.holds source) one (g.M.ReplayMachine.reads (g.S.ReplaySource.queue_of source)) count m n es fs h k
