use Rattle.std.proofs.Common.{◌≡◌, ◌++◌, drop}
use Rattle.raft_log_judge.proofs.change.copied_entries.Given as goal

-- what is copied, and what is left
abbrev pub invariant-loop-entry : goal.invariant-loop-entry
invariant-loop-entry l = l.copy ++ drop l.entry-index l.entries ≡ l.entries
