use Rattle.std.proofs.Common.{◌≡◌, ◌++◌, drop, string_bytes}
use Rattle.raft_voter_session.specs.Text.{rounds_text}
use Rattle.raft_voter_session.proofs.text.write_rounds.Given as goal

abbrev pub invariant-loop-number : goal.invariant-loop-number
invariant-loop-number l = string_bytes l.text ++ rounds_text l.number (drop l.number l.rounds) ≡ string_bytes l.initial.text ++ rounds_text 0 l.rounds
