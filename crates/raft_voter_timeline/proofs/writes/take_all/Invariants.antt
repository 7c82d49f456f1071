use Rattle.std.proofs.Common.{ℕ, ◌||◌, Bool, drop}
use Rattle.raft_voter.specs.Rounds.{taken_from}
use Rattle.raft_voter_outline.specs.Kept.{outlines_in}
use Rattle.raft_voter_outline.specs.State.{State}
use Rattle.raft_voter_timeline.specs.Writes.{Takes}
use Rattle.raft_voter_timeline.proofs.writes.take_all.Given as goal

-- what outlines do with the remaining requests completes what they do with all
abbrev pub invariant-loop-place : goal.invariant-loop-place
invariant-loop-place l =
    (us : ℕ → State) (more : Bool) → Takes (outlines_in l.outlines) us (taken_from l.place l.up_to l.refused (drop l.place l.requests)) more
    → Takes (outlines_in l.initial.outlines) us (taken_from 0 l.up_to l.refused l.requests) (more || l.wrote)
