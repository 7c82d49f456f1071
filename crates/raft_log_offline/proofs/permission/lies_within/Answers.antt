use Rattle.std.proofs.lemmas.Bool.{false≢true}
use Rattle.raft_log_offline.proofs.Permitting.{not_within}
use Rattle.raft_log_offline.proofs.permission.lies_within.Goals as goal

pub returns-in_default : goal.returns-in_default
returns-in_default c = ((λ t. absurd (false≢true t)), λ within. absurd (not_within c.args.directory.now c.args.path.now c.in_default.ensures.cases within))
