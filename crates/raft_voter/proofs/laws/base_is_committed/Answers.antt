use Rattle.raft_voter.proofs.Commits as commits
use Rattle.raft_voter.proofs.laws.base_is_committed.Goals as goal

pub returns : goal.returns
returns c = commits.base_is_committed
