use Rattle.raft_log_machine_laws.proofs.ReplayLaws.{step_replays}
use Rattle.raft_log_machine_laws.proofs.replay.each_step_replays.Goals as goal

pub returns : goal.returns
returns g c = step_replays
