use Rattle.std.proofs.Common.{subst}
use Rattle.std.proofs.lemmas.Map.Keys.{IsDistinct-from_sorted}
use Rattle.std.specs.BTreeMap.{keys}
use Rattle.std.specs.Ordering.{nat_cmp}
use Rattle.raft_log_offline.proofs.Groups.{once_each}
use Rattle.raft_log_offline.proofs.Telling.{Telling, telling_begins, tells_all, tells_one}
use Rattle.raft_log_offline.proofs.checker.ConsistencyChecker.tell_over.Goals as goal

pub loop-group-init : goal.loop-group-init
loop-group-init c =
    telling_begins c.args.self c.args.found.now _ c.into_iter-group-iterator.ensures.into_iter_gives.0
    (once_each c.args.self.groups.entries (IsDistinct-from_sorted nat_cmp (keys c.args.self.groups) c.into_iter-group-iterator.ensures.into_iter_gives.5))

pub loop-group-preserved : goal.loop-group-preserved
loop-group-preserved c =
    tells_one c.args.self c.args.found.now c.loop-group.found c.note.new.found (c.in-Some.group, c.in-Some.runs) c.next.new.self
    (subst (Telling c.args.self c.args.found.now c.loop-group.found) c.in-Some.ensures.steps c.loop-group.invariant) c.in_ok-note.ensures

pub returns : goal.returns
returns c = tells_all c.args.self c.args.found.now c.loop-group.found _ c.in-None.ensures.steps.0 c.loop-group.invariant
