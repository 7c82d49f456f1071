use Rattle.raft_log_machine_laws.proofs.GrowsLaws.{items_append, items_carry, items_shrink}
use Rattle.raft_log_machine_laws.proofs.notes.items_speak_of_what_they_bring.Goals as goal

pub returns : goal.returns
returns g c = record { append = items_append; rewrite = items_carry; nothing = items_shrink }
