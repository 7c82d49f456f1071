use Rattle.raft_log_file_pipe.proofs.SettingAside.{greatest_yielded}
use Rattle.raft_log_file_pipe.proofs.closing.greatest_reserved.Goals as goal

pub loop-file-preserved : goal.loop-file-preserved
loop-file-preserved c = greatest_yielded c.loop-file.yielded c.in-Some.file c.loop-file.greatest c.greater_reserved-greatest.result c.loop-file.invariant c.greater_reserved-greatest.ensures
