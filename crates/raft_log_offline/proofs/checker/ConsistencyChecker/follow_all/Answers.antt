use Rattle.std.proofs.Common.{subst}
use Rattle.std.proofs.lemmas.Map.Keys.{IsDistinct-from_sorted}
use Rattle.std.specs.BTreeMap.{keys}
use Rattle.std.specs.Ordering.{nat_cmp}
use Rattle.raft_log_offline.proofs.Groups.{Following, begins, follows_all, follows_one, once_each}
use Rattle.raft_log_offline.proofs.checker.ConsistencyChecker.follow_all.Goals as goal

pub loop-group-init : goal.loop-group-init
loop-group-init c =
    begins c.args.self.now c.args.later _ c.into_iter-group-iterator.ensures.into_iter_gives.0
    (once_each c.args.later.groups.entries (IsDistinct-from_sorted nat_cmp (keys c.args.later.groups) c.into_iter-group-iterator.ensures.into_iter_gives.5))

pub loop-group-preserved : goal.loop-group-preserved
loop-group-preserved c =
    follows_one c.args.self.now c.args.later c.loop-group.self c.follow.new.self (c.in-Some.group, c.in-Some.runs) c.next.new.self
    (subst (Following c.args.self.now c.args.later c.loop-group.self) c.in-Some.ensures.steps c.loop-group.invariant) c.in_ok-follow.ensures

pub returns : goal.returns
returns c = follows_all c.args.self.now c.args.later c.loop-group.self _ c.in-None.ensures.steps.0 c.loop-group.invariant
