use Rattle.std.proofs.Common.{◌++◌, Bool, List, drop}
use Rattle.raft_voter.specs.Rounds.{World, fresh_world}
use Rattle.raft_voter_outline.specs.Kept.{outlines_in}
use Rattle.raft_voter_timeline.specs.Writes.{AreOutlines, AreWrites}
use Rattle.raft_voter_timeline.proofs.writes.writes_of.Given as goal

-- the outlines are those of voters, and what these write in the remaining rounds completes the result
abbrev pub invariant-loop-round : goal.invariant-loop-round
invariant-loop-round l =
    (W : World) × AreOutlines (outlines_in l.outlines) W
    × ((more : List Bool) → AreWrites W (drop l.round-index l.rounds) l.cuts more → AreWrites fresh_world l.rounds l.fn.cuts (l.writes.items ++ more))
