use Rattle.std.specs.VecDeque.{deque_len}
use Rattle.raft_log_world.specs.declared.world.World.{World}
use Rattle.raft_log_world.specs.Steps.{HasPlayed}
use Rattle.raft_log_world.proofs.world.World.play.Given as goal

-- what is played from here on is played after what was
abbrev pub invariant-loop-event : goal.invariant-loop-event
invariant-loop-event g l = (new : World g.row.S.Denot g.row.F.Denot) → HasPlayed g.F.LogFiles.log l.world l.events.items new → HasPlayed g.F.LogFiles.log l.fn.self l.fn.events.items new

abbrev pub decreases-loop-event : goal.decreases-loop-event
decreases-loop-event g l = deque_len l.events
