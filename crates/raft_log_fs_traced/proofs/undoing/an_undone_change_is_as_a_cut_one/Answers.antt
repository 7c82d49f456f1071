use Rattle.raft_log_fs_traced.proofs.UndoneLaws.{undone_is_as_cut}
use Rattle.raft_log_fs_traced.proofs.undoing.an_undone_change_is_as_a_cut_one.Goals as goal

pub returns : goal.returns
returns c = undone_is_as_cut
