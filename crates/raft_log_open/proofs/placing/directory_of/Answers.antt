use Rattle.std.proofs.Common.{[], sym, ◌∙◌}
use Rattle.std.specs.String.{string_bytes}
use Rattle.raft_log_recovery_scan.proofs.Public.{at_map}
use Rattle.raft_log_open.proofs.placing.directory_of.Goals as goal

pub returns : goal.returns
returns c =
    let paths = c.args.paths.now in
    c.as_str.ensures.value ∙ sym (at_map string_bytes paths c.args.path_id c.index-paths-path_id.result [] c.requires c.index-paths-path_id.is)
