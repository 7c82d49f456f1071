use Rattle.std.proofs.Common.{◌≡◌, ◌+◌, drop}
use Rattle.std.specs.List.{position_or_len}
use Rattle.raft_voter_session.specs.Words.{is_space}
use Rattle.raft_voter_session.proofs.words.end_of_word.Given as goal

abbrev pub invariant-loop-b : goal.invariant-loop-b
invariant-loop-b l = (l.end ≡ l.b-index) × (l.end + position_or_len is_space (drop l.b-index l.text) ≡ position_or_len is_space l.text)
