use Rattle.raft_voter.proofs.Commits as commits
use Rattle.raft_voter.proofs.laws.commit_never_falls.Goals as goal

pub returns : goal.returns
returns c = commits.commit_never_falls
