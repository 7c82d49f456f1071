use Rattle.raft_log_record_checksum.proofs.HashInverse.{unfolded}
use Rattle.raft_log_record_checksum.proofs.hash.unfold_down.Goals as goal

pub returns : goal.returns
returns c = λ number lt e. rw e (unfolded c.args.bits number c.requires.least lt)
