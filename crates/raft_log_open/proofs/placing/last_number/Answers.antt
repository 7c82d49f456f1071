use Rattle.std.specs.Prelude.{None}
use Rattle.std.proofs.Common.{sym, ap}
use Rattle.raft_log_open.specs.Placing.{number_of}
use Rattle.raft_log_open.proofs.Joining.{last_is}
use Rattle.raft_log_open.proofs.placing.last_number.Goals as goal

pub returns-in-Some : goal.returns-in-Some
returns-in-Some c = sym (ap number_of (last_is None c.args.files.now c.in-Some.file.now (sym c.in-Some.ensures.value)))
