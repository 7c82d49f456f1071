use Rattle.raft_log_fs.proofs.CauseLaws.{counted_refusal_tells_its_kind}
use Rattle.raft_log_fs.proofs.causes.a_counted_refusal_tells_its_kind.Goals as goal

pub returns : goal.returns
returns g c = counted_refusal_tells_its_kind g.C.Refusing.wrong g.C.Refusing.done
