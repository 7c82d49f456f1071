use Rattle.raft_log_machine_laws.proofs.RenumberLaws.{renumbered_kept, renumbered_replays}
use Rattle.raft_log_machine_laws.proofs.machine.renumbered_sound.Goals as goal

pub returns : goal.returns
returns g c = record {
  kept = renumbered_kept;
  replay = renumbered_replays;
  runs = λ w next h. record { runs = h.runs };
}
