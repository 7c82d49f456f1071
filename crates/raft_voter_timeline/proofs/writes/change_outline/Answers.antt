use Rattle.std.proofs.lemmas.Result.{on_ok_weaker}
use Rattle.raft_voter_timeline.proofs.Writing.{has_lent, steps_lent}
use Rattle.raft_voter_timeline.proofs.writes.change_outline.Goals as goal

pub returns-in-Some : goal.returns-in-Some
returns-in-Some c =
    let left = c.make.new.outline in
    on_ok_weaker c.make.result
    (steps_lent (c.args.group, c.args.request.now) c.args.outlines.now (c.get_mut.follows.lender left) c.in-Some.outline.now left c.in-Some.ensures.value (has_lent _ _ c.in-Some.is (c.get_mut.follows.holds left)))
    c.make.ensures
