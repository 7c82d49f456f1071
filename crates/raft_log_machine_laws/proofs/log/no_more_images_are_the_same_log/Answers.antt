use Rattle.raft_log_machine_laws.proofs.LogLaws.{shows_no_more, shown_means}
use Rattle.raft_log_machine_laws.proofs.log.no_more_images_are_the_same_log.Goals as goal

pub returns : goal.returns
returns g c = record { log = shows_no_more g.D.LogImages.readings; means = shown_means g.D.LogImages.readings }
