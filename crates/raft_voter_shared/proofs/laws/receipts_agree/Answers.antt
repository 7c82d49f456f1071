use Rattle.raft_voter_shared.proofs.Agreeing.{receipts_agree}
use Rattle.raft_voter_shared.proofs.laws.receipts_agree.Goals as goal

pub returns : goal.returns
returns c = receipts_agree
