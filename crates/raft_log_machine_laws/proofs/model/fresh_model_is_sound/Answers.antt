use Rattle.raft_log_machine_laws.proofs.Sound.{fresh_sound}
use Rattle.raft_log_machine_laws.proofs.model.fresh_model_is_sound.Goals as goal

pub returns : goal.returns
returns g c = fresh_sound
