use Rattle.raft_log_machine_laws.proofs.ReplayLaws.{fresh_replays}
use Rattle.raft_log_machine_laws.proofs.replay.fresh_machine_replays.Goals as goal

pub returns : goal.returns
returns g c = fresh_replays
