use Rattle.raft_log_record_base.proofs.Public.{prefix_free}
use Rattle.raft_log_file_format.proofs.Headers.{is_header}
use Rattle.raft_log_file_format.proofs.laws.no_header_begins_another.Goals as goal

pub returns : goal.returns
returns c = prefix_free is_header
