use Rattle.raft_log_machine_laws.proofs.AppendNotes.{noted_has}
use Rattle.raft_log_machine_laws.proofs.notes.noted_files_have_what_is_appended.Goals as goal

pub returns : goal.returns
returns g c = noted_has
