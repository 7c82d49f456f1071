use Rattle.std.specs.Int.{w16, w32, w64}
use Rattle.raft_log_record_base.proofs.Grammar.{prefix_free}
use Rattle.raft_log_record_base.proofs.Fixed.{is_byte, is_high_first, is_low_first, is_u64_desc, is_i64, is_i64_desc, is_i32_le, is_i64_le}
use Rattle.raft_log_record_base.proofs.Var.{is_var_u64, is_var_i64}
use Rattle.raft_log_record_base.proofs.laws.no_number_begins_another.Goals as goal

pub returns : goal.returns
returns c = record {
  byte = prefix_free is_byte;
  u16 = prefix_free (is_high_first w16);
  u32 = prefix_free (is_high_first w32);
  u64 = prefix_free (is_high_first w64);
  u16_le = prefix_free (is_low_first w16);
  u32_le = prefix_free (is_low_first w32);
  u64_le = prefix_free (is_low_first w64);
  u64_desc = prefix_free is_u64_desc;
  i64 = prefix_free is_i64;
  i64_desc = prefix_free is_i64_desc;
  i32_le = prefix_free is_i32_le;
  i64_le = prefix_free is_i64_le;
  var_u64 = prefix_free is_var_u64;
  var_i64 = prefix_free is_var_i64;
}
