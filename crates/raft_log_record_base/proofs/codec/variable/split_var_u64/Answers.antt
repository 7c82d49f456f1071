use Rattle.std.proofs.Common.{arith}
use Rattle.raft_log_record_base.proofs.Var.{var_one}
use Rattle.raft_log_record_base.proofs.VarLoop.{var_two}
use Rattle.raft_log_record_base.proofs.codec.variable.split_var_u64.Goals as goal

pub returns-in-len1-up : goal.returns-in-len1-up
returns-in-len1-up c = var_one c.args.source.now.now c.in-len1-up.len_at_least c.if-byte-lt-CONTINUES.true

pub returns-in-len2-up : goal.returns-in-len2-up
returns-in-len2-up c = var_two c.args.source.now.now _ c.in-len2-up.len_at_least (omega arith) (omega arith) (omega arith)
