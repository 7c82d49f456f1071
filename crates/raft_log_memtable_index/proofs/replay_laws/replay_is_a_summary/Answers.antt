use Rattle.raft_log_memtable_index.proofs.Replays.{read_noted, read_nothing, read_one}
use Rattle.raft_log_memtable_index.proofs.Joining.{healthy_fits}
use Rattle.raft_log_memtable_index.proofs.replay_laws.replay_is_a_summary.Goals as goal

pub returns : goal.returns
returns c = record { nothing = read_nothing; step = read_one; noted = read_noted; fits = healthy_fits }
