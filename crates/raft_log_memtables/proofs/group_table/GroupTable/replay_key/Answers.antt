use Rattle.std.proofs.Common.{sym}
use Rattle.raft_log_memtable.specs.Replays.{in_append}
use Rattle.raft_log_memtables.proofs.group_table.GroupTable.replay_key.Goals as goal

pub returns-in-Del-clause-ok : goal.returns-in-Del-clause-ok
returns-in-Del-clause-ok c = rw (c.in-Del.is, sym c.as_slice-in-Del.ensures) (c.replay_delete.ensures.ok (in_append c.args.queue) c.args.file)
