use Rattle.raft_log_run_laws.proofs.Walking.{quiet_runs_ask_nothing}
use Rattle.raft_log_run_laws.proofs.quiet_runs_ask_nothing.Goals as goal

pub returns : goal.returns
returns g c = λ parts. quiet_runs_ask_nothing parts c.losses_leave_no_chance.ensures c.closed_files_meet_the_premise.ensures
