use Rattle.raft_log_replay_context.proofs.Opening.{made_of}
use Rattle.raft_log_replay_context.proofs.laws.opened_view_is_made_of_what_was_read.Goals as goal

pub returns : goal.returns
returns g c = made_of
