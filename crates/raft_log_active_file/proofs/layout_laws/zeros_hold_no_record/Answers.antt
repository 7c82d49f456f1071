use Rattle.raft_log_active_file.specs.QueueFilesLaws.{zeros_hold_none}
use Rattle.raft_log_active_file.proofs.layout_laws.zeros_hold_no_record.Goals as goal

pub returns : goal.returns
returns c = zeros_hold_none
