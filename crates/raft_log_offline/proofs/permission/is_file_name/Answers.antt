use Rattle.std.proofs.Common.{sym, ◌∙◌}
use Rattle.raft_log_offline.proofs.Permitting.{file_read, reserved_read, one_is_read}
use Rattle.raft_log_offline.proofs.permission.is_file_name.Goals as goal

pub returns-then-is_some : goal.returns-then-is_some
returns-then-is_some c =
    ((λ some. file_read c.args.name.now c.parse_file_name.result c.parse_file_name.ensures (sym c.is_some.ensures ∙ some)), λ _. c.if-is_some.true)

pub returns-else-is_some : goal.returns-else-is_some
returns-else-is_some c = (
  (λ some. reserved_read c.args.name.now c.parse_reserved_file_name.result c.parse_reserved_file_name.ensures (sym c.is_some-else-is_some.ensures ∙ some)),
  λ named. c.is_some-else-is_some.ensures ∙ one_is_read c.args.name.now c.parse_file_name.result c.parse_reserved_file_name.result c.parse_file_name.ensures c.parse_reserved_file_name.ensures (sym c.is_some.ensures ∙ c.if-is_some.false) named,
)
