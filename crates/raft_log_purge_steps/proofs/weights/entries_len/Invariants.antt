use Rattle.std.proofs.Common.{◌≡◌, ◌-◌, ◌^◌, min, take}
use Rattle.raft_log_record_items.specs.Placed.{run_len}
use Rattle.raft_log_purge_steps.proofs.weights.entries_len.Given as goal

-- so many bytes up to here
abbrev pub invariant-loop-entry : goal.invariant-loop-entry
invariant-loop-entry l = l.len ≡ min (run_len (take l.entry-index l.entries)) (2 ^ 64 - 1)
