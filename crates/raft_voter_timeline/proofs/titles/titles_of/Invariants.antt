use Rattle.std.proofs.Common.{◌≡◌, map}
use Rattle.raft_voter_timeline.specs.Marks.{event_mark, marks_of}
use Rattle.raft_voter_timeline.proofs.titles.titles_of.Given as goal

abbrev pub invariant-loop-event : goal.invariant-loop-event
invariant-loop-event l = marks_of l.titles.items ≡ map event_mark (map (λ event. event.now) l.yielded)
