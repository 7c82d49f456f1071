use Rattle.std.proofs.Common.{rules, map, string_bytes}
use Rattle.raft_log_command_line.proofs.command.parse_dump.Goals as goal

pub returns-in_err-group-in-Some-split_first-clause-group : goal.returns-in_err-group-in-Some-split_first-clause-group
returns-in_err-group-in-Some-split_first-clause-group c = λ word same.
    (string_bytes c.in-Some.directory.now, map string_bytes c.in-Some-split_first-2.rest.now, search (rules, c, same), search (rules, c, same))
