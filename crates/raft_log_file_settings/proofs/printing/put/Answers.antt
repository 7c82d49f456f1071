use Rattle.std.proofs.Common.{string_bytes}
use Rattle.raft_log_file_settings.proofs.Printings.{put_at, flat_insert}
use Rattle.raft_log_file_settings.proofs.printing.put.Goals as goal

pub returns-in-Ok-clause-ok : goal.returns-in-Ok-clause-ok
returns-in-Ok-clause-ok c = record {
  at = put_at c.args.table.now c.insert.new.self c.args.value (string_bytes c.in_ok-name.name) c.args.key.now c.in_ok-name.ensures.ok c.in-Ok.ensures.updates;
  flat = λ plain old. rw c.in-Ok.ensures.entries (flat_insert c.args.table.now.entries c.in_ok-name.name c.args.value plain old);
}
