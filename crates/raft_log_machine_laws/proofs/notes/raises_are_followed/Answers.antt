use Rattle.raft_log_machine_laws.proofs.StandsLaws.{stands_raised, rewrite_stands_raised}
use Rattle.raft_log_machine_laws.proofs.notes.raises_are_followed.Goals as goal

pub returns : goal.returns
returns g c = record { append = stands_raised; rewrite = rewrite_stands_raised }
