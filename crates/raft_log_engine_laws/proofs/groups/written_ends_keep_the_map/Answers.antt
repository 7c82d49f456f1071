use Rattle.raft_log_engine_laws.proofs.Ending.{end_written}
use Rattle.raft_log_engine_laws.proofs.groups.written_ends_keep_the_map.Goals as goal

pub returns : goal.returns
returns c = end_written
