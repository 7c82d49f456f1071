use Rattle.raft_voter.proofs.Repeating as repeating
use Rattle.raft_voter.proofs.laws.repeat_is_idempotent.Goals as goal

pub returns : goal.returns
returns c = repeating.repeat_is_idempotent
