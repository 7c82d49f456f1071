use Rattle.std.proofs.Common.{◌≤◌, rules}
use Rattle.std.specs.Prelude.{◌^◌}
use Rattle.raft_log_file_settings.proofs.Printings.{too_far}
use Rattle.raft_log_file_settings.proofs.printing.value_of.Goals as goal

pub returns-in-Err-clause-err : goal.returns-in-Err-clause-err
returns-in-Err-clause-err c =
    let past : 2 ^ 63 ≤ c.in-Number.number = search rules in
    rw c.in-Number.is (too_far c.args.key.now c.in-Number.number c.too_large.result past c.too_large.ensures)
