use Rattle.raft_log_machine_laws.proofs.ReplayLaws.{replays}
use Rattle.raft_log_machine_laws.proofs.replay.kept_machine_replays.Goals as goal

pub returns : goal.returns
returns g c = replays
