use Rattle.raft_log_recovery_laws.proofs.Bare.{bare_plain}
use Rattle.raft_log_recovery_laws.proofs.InPlaceOutcomes.{standing_logs_have_no_padding}
use Rattle.raft_log_recovery_laws.proofs.Unpadded.{resting_plain}
use Rattle.raft_log_recovery_laws.proofs.found.own_logs_have_no_padding.Goals as goal

pub returns : goal.returns
returns c = record { bare = bare_plain; resting = resting_plain; standing = standing_logs_have_no_padding }
