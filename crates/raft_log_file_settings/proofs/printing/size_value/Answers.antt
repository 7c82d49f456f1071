use Rattle.std.proofs.Common.{◌≡◌, ◌∙◌, ◌<◌, pos, rules}
use Rattle.std.specs.Prelude.{◌^◌}
use Rattle.toml.specs.Data.Data.{integer}
use Rattle.toml.specs.View.{view}
use Rattle.raft_log_file_settings.proofs.Printings.{small_size}
use Rattle.raft_log_file_settings.proofs.printing.size_value.Goals as goal

pub returns-in-Ok : goal.returns-in-Ok
returns-in-Ok c =
    let small : c.args.size.0 < 2 ^ 63 = search rules in
    let number : view c.from.result ≡ integer (pos c.args.size.0) = search rules in
    number ∙ small_size c.args.size.0 small
