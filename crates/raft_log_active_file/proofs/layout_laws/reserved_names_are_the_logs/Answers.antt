use Rattle.raft_log_active_file.specs.QueueFilesLaws.{reserved_names}
use Rattle.raft_log_active_file.proofs.layout_laws.reserved_names_are_the_logs.Goals as goal

pub returns : goal.returns
returns c = reserved_names
