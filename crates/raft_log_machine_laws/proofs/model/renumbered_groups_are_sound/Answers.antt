use Rattle.raft_log_machine_laws.proofs.Renumbered.{renumbered_sound, renumbered_stands}
use Rattle.raft_log_machine_laws.proofs.model.renumbered_groups_are_sound.Goals as goal

pub returns : goal.returns
returns g c = record { model = renumbered_sound; view = renumbered_stands }
