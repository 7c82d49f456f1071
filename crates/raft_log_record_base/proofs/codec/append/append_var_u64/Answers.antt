use Rattle.std.proofs.Common.{◌≡◌, ◌∷◌, [], arith}
use Rattle.raft_log_record_base.specs.Number.{var_u64_bytes}
use Rattle.raft_log_record_base.proofs.VarSpelling.{one_byte, var_u64_shortest}
use Rattle.raft_log_record_base.proofs.codec.append.append_var_u64.Goals as goal

pub returns-in_err-push-clause-spelled : goal.returns-in_err-push-clause-spelled
returns-in_err-push-clause-spelled c = var_u64_shortest c.args.number (omega arith)

pub returns-then-number-clause-ok : goal.returns-then-number-clause-ok
returns-then-number-clause-ok c = let one : var_u64_bytes c.args.number ≡ c.args.number ∷ [] = one_byte c.args.number (omega arith) in rw one c.in_ok-push.ensures.items

pub returns-then-number-clause-spelled : goal.returns-then-number-clause-spelled
returns-then-number-clause-spelled c = var_u64_shortest c.args.number (omega arith)

pub returns-in_err-reserve-clause-spelled : goal.returns-in_err-reserve-clause-spelled
returns-in_err-reserve-clause-spelled c = var_u64_shortest c.args.number (omega arith)

pub returns-clause-spelled : goal.returns-clause-spelled
returns-clause-spelled c = var_u64_shortest c.args.number (omega arith)
