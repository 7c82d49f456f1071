use Rattle.std.proofs.Common.{◌≡◌, ◌+◌, ◌-◌, ◌*◌, ◌^◌, ◌<◌, ◌≤◌, ◌++◌}
use Rattle.std.specs.Prelude.{vec_len, vec_capacity}
use Rattle.raft_log_record_base.specs.Number.{var_bytes_within, var_u64_bytes}
use Rattle.raft_log_record_base.proofs.codec.append.push_digits.Given as goal

-- the low digits are written, and the spelling of the rest makes the whole one
abbrev pub invariant-loop-rest : goal.invariant-loop-rest
invariant-loop-rest l = record {
  grown : vec_len l.fn.out ≤ vec_len l.out;
  room : vec_len l.fn.out + 10 ≤ vec_capacity l.out;
  within : vec_len l.out - vec_len l.fn.out ≤ 9;
  below : l.rest < 2 ^ (64 - 7 * (vec_len l.out - vec_len l.fn.out));
  whole : l.out.items ++ var_bytes_within (9 - (vec_len l.out - vec_len l.fn.out)) l.rest ≡ l.fn.out.items ++ var_u64_bytes l.number;
}

abbrev pub decreases-loop-rest : goal.decreases-loop-rest
decreases-loop-rest l = l.rest
