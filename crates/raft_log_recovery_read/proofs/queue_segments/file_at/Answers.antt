use Rattle.raft_log_recovery_read.proofs.Handing.{one_item}
use Rattle.raft_log_recovery_read.proofs.queue_segments.file_at.Goals as goal

pub returns : goal.returns
returns c = λ other. one_item c.args.files.now c.args.index _ other c.requires
