use Rattle.std.proofs.Common.{take}
use Rattle.raftlog.specs.Same.{SameEvents}
use Rattle.raftlog.proofs.events.engine_events.Given as goal

abbrev pub invariant-loop-event : goal.invariant-loop-event
invariant-loop-event l = SameEvents (take l.event-index l.events) l.copies.items
