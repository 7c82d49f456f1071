use Rattle.std.proofs.Common.{◌≡◌, drop}
use Rattle.raft_log_record_base.specs.Size.{number_in}
use Rattle.raft_log_record_base.proofs.size.text.number_in.Given as goal

abbrev pub invariant-loop-i : goal.invariant-loop-i
invariant-loop-i l = number_in l.number (drop l.i l.text) ≡ number_in 0 l.text
