use Rattle.raft_log_active_file.proofs.Bridging.{takes_numbered_steps}
use Rattle.raft_log_active_file.proofs.numbered.files_take_numbered_steps.Goals as goal

pub returns : goal.returns
returns g c = takes_numbered_steps g.G.NumberedFormat.says g.G.NumberedFormat.format
