use Rattle.raft_log_recovery_laws.proofs.QueueReading.{no_files_are_the_queue, read_files_are_the_queue}
use Rattle.raft_log_recovery_laws.proofs.recovered.read_files_are_the_queue.Goals as goal

pub returns : goal.returns
returns c = record { files = read_files_are_the_queue; none = no_files_are_the_queue }
