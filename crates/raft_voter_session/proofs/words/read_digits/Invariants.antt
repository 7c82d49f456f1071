use Rattle.std.proofs.Common.{◌≡◌, ◌<◌, ◌^◌, drop}
use Rattle.raft_voter_session.specs.Words.{value_from}
use Rattle.raft_voter_session.proofs.words.read_digits.Given as goal

abbrev pub invariant-loop-b : goal.invariant-loop-b
invariant-loop-b l = (value_from l.number (drop l.b-index l.digits) ≡ value_from 0 l.digits) × (l.number < 2 ^ 64)
