use Rattle.raft_log_fs_state.proofs.OwnLaws.{order_is_the_files}
use Rattle.raft_log_fs_state.proofs.laws.order_has_each_files_changes.Goals as goal

pub returns : goal.returns
returns c = order_is_the_files
