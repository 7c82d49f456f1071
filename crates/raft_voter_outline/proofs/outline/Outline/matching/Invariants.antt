use Rattle.std.proofs.Common.{◌≡◌, ◌+◌, ◌-◌, ◌≤◌, drop, length}
use Rattle.raft_voter_outline.specs.Rules.{matching}
use Rattle.raft_voter_outline.proofs.outline.Outline.matching.Given as goal

-- so many are there, and what matches from there on is all that is missing
abbrev pub invariant-loop-count : goal.invariant-loop-count
invariant-loop-count l = record {
  bound : l.count ≤ length l.entries;
  rest : l.count + matching (drop (l.prev_index - l.self.voter.base_index + l.count) l.self.voter.log) (drop l.count l.entries) ≡ matching (drop (l.prev_index - l.self.voter.base_index) l.self.voter.log) l.entries;
}

abbrev pub decreases-loop-count : goal.decreases-loop-count
decreases-loop-count l = length l.entries - l.count
