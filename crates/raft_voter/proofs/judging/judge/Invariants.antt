use Rattle.std.proofs.Common.{◌≤◌, ◌↔◌, length, drop}
use Rattle.raft_voter.specs.Rounds.{ExplainsFrom, Explains}
use Rattle.raft_voter.specs.Voters.{world_of}
use Rattle.raft_voter.proofs.judging.judge.Given as goal

-- the rounds and cuts that are left decide
abbrev pub invariant-loop-round : goal.invariant-loop-round
invariant-loop-round l = record {
  used : l.used ≤ length l.cuts;
  rest : ExplainsFrom (world_of l.voters) (drop l.round-index l.fn.transcript.rounds) (drop l.used l.cuts) ↔ Explains l.fn.transcript.rounds l.cuts;
}
