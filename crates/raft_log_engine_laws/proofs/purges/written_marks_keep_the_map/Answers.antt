use Rattle.raft_log_engine_laws.proofs.Rewriting.{marks_written}
use Rattle.raft_log_engine_laws.proofs.purges.written_marks_keep_the_map.Goals as goal

pub returns : goal.returns
returns c = marks_written
