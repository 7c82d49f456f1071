use Rattle.raft_log_fs.proofs.CauseLaws.{undisturbed_has_no_cause}
use Rattle.raft_log_fs.proofs.causes.undisturbed_disk_has_no_cause.Goals as goal

pub returns : goal.returns
returns g c = undisturbed_has_no_cause g.Q.FilesInQuestion.asks_for
