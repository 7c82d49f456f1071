use Rattle.raft_log_machine_laws.proofs.HistoryLaws.{schedule_follows}
use Rattle.raft_log_machine_laws.proofs.machine.map_is_what_was_taken.Goals as goal

pub returns : goal.returns
returns g c = schedule_follows
