use Rattle.raft_log_engine_laws.proofs.Rising.{moved_rise}
use Rattle.raft_log_engine_laws.proofs.groups.moved_files_rise.Goals as goal

pub returns : goal.returns
returns g c = moved_rise
