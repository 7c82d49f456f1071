use Rattle.raft_log_world.proofs.Playing.{all_go_on}
use Rattle.raft_log_world.proofs.laws.known_logs_go_on.Goals as goal

pub returns : goal.returns
returns g c = all_go_on g.F.LogFiles.log
