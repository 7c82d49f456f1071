use Rattle.raft_log_machine_laws.proofs.RunLaws.{fresh_runs, schedule_runs, step_runs}
use Rattle.raft_log_machine_laws.proofs.images.each_image_has_one_run.Goals as goal

pub returns : goal.returns
returns g c = record { fresh = fresh_runs; step = step_runs; always = schedule_runs }
