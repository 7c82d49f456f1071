use Rattle.std.proofs.Common.{rules}
use Rattle.raft_log_recovery_scan.proofs.NameLemmas.{found_in, not_in, none_in}
use Rattle.raft_log_recovery_scan.proofs.file_kind.parse_name_in.Goals as goal

pub returns-then-eq : goal.returns-then-eq
returns-then-eq c = found_in c.args.queue c.args.name.now c.in-Some.id c.in-Some.ensures (search rules)

pub returns : goal.returns
returns c = not_in c.args.queue c.args.name.now c.in-Some.id c.in-Some.ensures (search rules)

pub returns-in_default : goal.returns-in_default
returns-in_default c = none_in c.args.queue c.args.name.now c.in_default.ensures
