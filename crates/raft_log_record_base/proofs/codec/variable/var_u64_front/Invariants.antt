use Rattle.std.proofs.Common.{◌≡◌, ◌-◌, ◌*◌, ◌^◌, ◌<◌, ◌≤◌, length, drop}
use Rattle.raft_log_record_base.specs.Number.{var_within, var_u64_at}
use Rattle.raft_log_record_base.proofs.VarLoop.{added}
use Rattle.raft_log_record_base.proofs.codec.variable.var_u64_front.Given as goal

-- the low digits are read, and what is still to be read makes the number whole
abbrev pub invariant-loop-i : goal.invariant-loop-i
invariant-loop-i l = record {
  within : l.i ≤ length l.bytes;
  below : l.number < 2 ^ (7 * l.i);
  whole : added l.number (2 ^ (7 * l.i)) (var_within (9 - l.i) (drop l.i l.bytes)) ≡ var_u64_at l.bytes;
}
