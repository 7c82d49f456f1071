use Rattle.raft_log_machine_laws.proofs.FileLaws.{file_step_numbers}
use Rattle.raft_log_machine_laws.proofs.files.numbers_stay_in_order.Goals as goal

pub returns : goal.returns
returns g c = file_step_numbers
