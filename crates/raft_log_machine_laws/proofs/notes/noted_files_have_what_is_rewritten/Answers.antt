use Rattle.raft_log_machine_laws.proofs.RewriteNotes.{noted_rewritten_has}
use Rattle.raft_log_machine_laws.proofs.notes.noted_files_have_what_is_rewritten.Goals as goal

pub returns : goal.returns
returns g c = noted_rewritten_has
