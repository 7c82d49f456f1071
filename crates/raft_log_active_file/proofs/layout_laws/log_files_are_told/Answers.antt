use Rattle.raft_log_active_file.specs.QueueFilesLaws.{files_are_told}
use Rattle.raft_log_active_file.proofs.layout_laws.log_files_are_told.Goals as goal

pub returns : goal.returns
returns c = files_are_told
