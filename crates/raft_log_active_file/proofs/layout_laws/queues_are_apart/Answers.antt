use Rattle.raft_log_active_file.specs.QueueFilesLaws.{queues_are_apart}
use Rattle.raft_log_active_file.proofs.layout_laws.queues_are_apart.Goals as goal

pub returns : goal.returns
returns c = queues_are_apart
