use Rattle.std.proofs.Common.{sym, ◌∙◌}
use Rattle.raft_log_file_format.proofs.Headers.{written_header, on_ok}
use Rattle.raft_log_file_format.proofs.header.append_header.Goals as goal

-- src/header.rt:178:1
pub returns-in-V1-clause-spelled : goal.returns-in-V1-clause-spelled
returns-in-V1-clause-spelled c =
    written_header c.args.format.now (rw (← c.to_u64.ensures) c.append_u64.ensures.spelled) (λ two. absurd (let k = sym c.in-V1.is ∙ two in cc))

-- src/header.rt:178:1
pub returns-in-V2-clause-spelled : goal.returns-in-V2-clause-spelled
returns-in-V2-clause-spelled c =
    on_ok c.append_u64-in-V2.result (written_header c.args.format.now (rw (← c.to_u64.ensures) c.append_u64.ensures.spelled) (λ _. c.append_u64-in-V2.ensures.spelled))
