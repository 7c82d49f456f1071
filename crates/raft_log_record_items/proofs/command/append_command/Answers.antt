use Rattle.std.proofs.Common.{arith}
use Rattle.raft_log_record_items.proofs.Spelled.{compact_spelled}
use Rattle.raft_log_record_items.proofs.command.append_command.Goals as goal

pub returns-in_ok-append_var_u64-in-Compact-clause-spelled : goal.returns-in_ok-append_var_u64-in-Compact-clause-spelled
returns-in_ok-append_var_u64-in-Compact-clause-spelled c = rw c.in-Compact.is (compact_spelled c.in-Compact.index (omega arith))
