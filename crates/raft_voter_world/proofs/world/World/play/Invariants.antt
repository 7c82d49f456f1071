use Rattle.std.specs.VecDeque.{deque_len}
use Rattle.raft_voter_world.proofs.Turning.{IsUnderWay}
use Rattle.raft_voter_world.proofs.world.World.play.Given as goal

-- the events so far were played
abbrev pub invariant-loop-event : goal.invariant-loop-event
invariant-loop-event g l = IsUnderWay g.S.RoundService.service g.S.VoterStorage.upkeep g.F.VoterDisk.disk l.fn.events.items l.fn.self l.events.items l.place l.world

abbrev pub decreases-loop-event : goal.decreases-loop-event
decreases-loop-event g l = deque_len l.events
