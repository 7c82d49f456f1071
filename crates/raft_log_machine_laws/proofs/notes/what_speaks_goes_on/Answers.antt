use Rattle.raft_log_machine_laws.proofs.RewriteNotes.{speaks_grown, speaks_moved_on}
use Rattle.raft_log_machine_laws.proofs.notes.what_speaks_goes_on.Goals as goal

pub returns : goal.returns
returns g c = record { grown = speaks_grown; moved = speaks_moved_on }
