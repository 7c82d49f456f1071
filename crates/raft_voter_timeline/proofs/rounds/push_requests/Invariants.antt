use Rattle.std.proofs.Common.{◌≡◌, ◌+◌, ◌++◌, drop}
use Rattle.raft_voter_timeline.specs.Marks.{fates, marks_of}
use Rattle.raft_voter_timeline.proofs.rounds.push_requests.Given as goal

abbrev pub invariant-loop-offset : goal.invariant-loop-offset
invariant-loop-offset l =
    marks_of l.lines.items ++ fates l.round.refused l.mark (l.from + l.offset) (drop l.offset l.requests) ≡ marks_of l.initial.lines.items ++ fates l.round.refused l.mark l.from l.requests
