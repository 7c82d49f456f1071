use Rattle.raft_voter_program.proofs.Fronts.{two_fronts}
use Rattle.raft_voter_program.proofs.writing.write_whole.Goals as goal

pub loop-preserved : goal.loop-preserved
loop-preserved g c = two_fronts _ _ _ _ _ _ c.loop.invariant c.in_ok-left.ensures.ok
