use Rattle.std.proofs.Common.{rules, ◌≡◌, Ok}
use Rattle.std.proofs.lemmas.Fmt.{parse-decimal}
use Rattle.raft_log_command_line.proofs.command.parse_group.Goals as goal
use Rattle.raft_log_command_line.proofs.command.parse_group.Goals.{in-Ok+in_ok-spelled+else-is, in_default}

pub returns-clause-group : goal.returns-clause-group
returns-clause-group c = λ reported same group small spelled.
    let read : c.parse.result ≡ Ok group = parse-decimal 64 group c.as_str.result.now c.parse.result small small (search (rules, c, spelled)) (search (rules, c)) in
    elim c.match-parse.branch [
      | in-Ok+in_ok-spelled+else-is w ↦ search (rules, c, w, read, spelled)
      | in_default w ↦ search (rules, c, w, read)
    ]
