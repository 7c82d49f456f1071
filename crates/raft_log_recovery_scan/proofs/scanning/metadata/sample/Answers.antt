use Rattle.std.proofs.Common.{◌≤◌, ◌^◌, arith}
use Rattle.std.proofs.lemmas.Nat.{mul-le}
use Rattle.raft_log_recovery_scan.proofs.scanning.metadata.sample.Goals as goal

pub overflow_mul-result : goal.overflow_mul-result
overflow_mul-result c =
    let first : c.args.first ≤ 10 ^ 16 = omega (arith, c.requires.range) in
    let at : c.args.at ≤ 100 = omega (arith, c.requires.place) in
    omega (arith, mul-le c.args.at c.args.first 100 (10 ^ 16) at first)

pub returns-clause-within : goal.returns-clause-within
returns-clause-within c =
    let same : c.args.first ≤ c.args.first = omega arith in
    let at : c.args.at ≤ 100 = omega (arith, c.requires.place) in
    omega (arith, mul-le c.args.at c.args.first 100 c.args.first at same)
