use Rattle.std.proofs.Common.{◌≡◌, ◌-◌, ◌*◌, ◌^◌, ◌<◌, ◌≤◌, ◌++◌, length, take}
use Rattle.raft_log_record_base.specs.Number.{var_bytes_within, var_u64_bytes}
use Rattle.raft_log_record_base.proofs.codec.variable.spell_var_u64.Given as goal

-- the low digits are written, and the spelling of the rest makes the whole one
abbrev pub invariant-loop-rest : goal.invariant-loop-rest
invariant-loop-rest l = record {
  size : length l.bytes ≡ 10;
  within : l.len ≤ 9;
  below : l.rest < 2 ^ (64 - 7 * l.len);
  whole : take l.len l.bytes ++ var_bytes_within (9 - l.len) l.rest ≡ var_u64_bytes l.number;
}

abbrev pub decreases-loop-rest : goal.decreases-loop-rest
decreases-loop-rest l = l.rest
