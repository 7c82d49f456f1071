use Rattle.raft_log_fs.proofs.CauseLaws.{other_files_are_no_cause}
use Rattle.raft_log_fs.proofs.causes.other_files_are_no_cause.Goals as goal

pub returns : goal.returns
returns g c = other_files_are_no_cause g.Q.FilesInQuestion.asks_for
