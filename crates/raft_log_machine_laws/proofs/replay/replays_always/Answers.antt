use Rattle.raft_log_machine_laws.proofs.ReplayLaws.{schedule_replays}
use Rattle.raft_log_machine_laws.proofs.replay.replays_always.Goals as goal

pub returns : goal.returns
returns g c = schedule_replays
