use Rattle.raft_voter_program.proofs.Rising.{one_more_rises}
use Rattle.raft_voter_program.proofs.listing.are_rising.Goals as goal

pub loop-next-preserved : goal.loop-next-preserved
loop-next-preserved c = one_more_rises c.args.voters.now c.loop-next.next _ _ c.loop-next.auto.next c.loop-next-test.true c.loop-next.invariant c.if-voters-next.false
