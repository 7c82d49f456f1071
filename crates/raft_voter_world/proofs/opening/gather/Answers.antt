use Rattle.std.proofs.Common.{rules}
use Rattle.raft_voter_world.proofs.FromFiles.{all_gathered, none_gathered, one_gathered}
use Rattle.raft_voter_world.proofs.opening.gather.Goals as goal

pub loop-group-init : goal.loop-group-init
loop-group-init c = none_gathered _ _ c.new-voters.ensures

pub loop-group-preserved : goal.loop-group-preserved
loop-group-preserved c = one_gathered _ _ _ _ _ _ _ c.loop-group.invariant (search rules) c.in_ok-put.ensures.ok

pub returns : goal.returns
returns c = all_gathered _ _ _ c.loop-group.invariant (search rules)
