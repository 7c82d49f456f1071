use Rattle.std.proofs.Common.{ap, ◌∙◌}
use Rattle.raft_log_memtable.specs.Table.{promise}
use Rattle.raft_log_memtable.proofs.Ready.{key_here}
use Rattle.raft_log_memtable.proofs.mem_table.MemTable.replay_delete.Goals as goal

pub delete-requires : goal.delete-requires
delete-requires c =
    ap (λ q. q.has c.args.key.now) c.in_ok-prepare_key.ensures.ok ∙ key_here (promise c.take_back.new.self).has c.args.key.now
