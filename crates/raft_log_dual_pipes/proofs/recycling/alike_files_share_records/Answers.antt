use Rattle.raft_log_dual_pipes.proofs.Signatures.{alike_files_share_records}
use Rattle.raft_log_dual_pipes.proofs.recycling.alike_files_share_records.Goals as goal

pub returns : goal.returns
returns c = alike_files_share_records
