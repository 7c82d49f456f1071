use Rattle.raft_log_fs.proofs.CauseLaws.{stop_is_no_want_of_memory}
use Rattle.raft_log_fs.proofs.causes.a_stop_is_no_want_of_memory.Goals as goal

pub returns : goal.returns
returns g c = stop_is_no_want_of_memory g.C.Refusing.wrong g.C.Refusing.done
