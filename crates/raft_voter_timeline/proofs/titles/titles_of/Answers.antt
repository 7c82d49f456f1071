use Rattle.std.proofs.Common.{map, ap, ◌∙◌}
use Rattle.std.proofs.lemmas.Iterator.Consumers.{YieldsList-end, YieldsList-from_deque}
use Rattle.raft_voter_timeline.specs.Marks.{event_mark}
use Rattle.raft_voter_timeline.proofs.titles.titles_of.Goals as goal

pub returns : goal.returns
returns c =
    let end = YieldsList-end (YieldsList-from_deque c.args.events.now.items cc) c.loop-event.yielded _ c.loop-event.yielded_by _ _ c.in-None.is c.next.ensures.steps in
    c.loop-event.invariant ∙ ap (map event_mark) end.0
