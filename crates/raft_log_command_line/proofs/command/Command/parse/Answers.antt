use Rattle.std.proofs.Common.{rules, map, string_bytes}
use Rattle.raft_log_command_line.proofs.command.Command.parse.Goals as goal

pub returns-in_err-place-clause-group : goal.returns-in_err-place-clause-group
returns-in_err-place-clause-group c = λ word same.
    (map string_bytes c.in-Some.rest.now, search (rules, c, same), search (rules, c, same))
