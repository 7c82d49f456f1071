use Rattle.std.proofs.Common.{◌≡◌}
use Rattle.raft_log_file_uses.proofs.answers.answers_of.Given as goal

-- the answers so far are those that came
abbrev pub invariant-loop-answer : goal.invariant-loop-answer
invariant-loop-answer g l = l.answers.items ≡ l.yielded
