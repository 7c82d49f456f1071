use Rattle.std.proofs.Common.{◌≡◌, ◌+◌, drop}
use Rattle.std.specs.List.{position_or_len}
use Rattle.raft_log_session.specs.Words.{parts_words}
use Rattle.raft_log_session.proofs.words.end_of_word.Given as goal

abbrev pub invariant-loop-b : goal.invariant-loop-b
invariant-loop-b l = (l.end ≡ l.b-index) × (l.end + position_or_len parts_words (drop l.b-index l.text) ≡ position_or_len parts_words l.text)
