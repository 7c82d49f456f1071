use Rattle.raft_log_machine_laws.proofs.Follows.{append_follows, rewrite_follows}
use Rattle.raft_log_machine_laws.proofs.moves.quiet_events_are_followed.Goals as goal

pub returns : goal.returns
returns g c = record { append = append_follows; rewrite = rewrite_follows }
