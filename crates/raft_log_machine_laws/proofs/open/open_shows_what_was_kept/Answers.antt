use Rattle.raft_log_machine_laws.proofs.OpenLaws.{open_answered}
use Rattle.raft_log_machine_laws.proofs.open.open_shows_what_was_kept.Goals as goal

pub returns : goal.returns
returns g c = open_answered g.P.TiedFiles.allows g.P.TiedFiles.ties
