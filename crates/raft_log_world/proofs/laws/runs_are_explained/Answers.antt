use Rattle.raft_log_world.proofs.Playing.{all_explained}
use Rattle.raft_log_world.proofs.laws.runs_are_explained.Goals as goal

pub returns : goal.returns
returns g c = all_explained g.F.LogFiles.log
