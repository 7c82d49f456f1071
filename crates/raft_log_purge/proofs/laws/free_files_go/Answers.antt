use Rattle.raft_log_purge.proofs.Free.{free_files_go}
use Rattle.raft_log_purge.proofs.laws.free_files_go.Goals as goal

pub returns : goal.returns
returns g c = free_files_go _
