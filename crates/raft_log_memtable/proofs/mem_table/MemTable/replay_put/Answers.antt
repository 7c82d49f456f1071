use Rattle.std.proofs.Common.{ap, ◌∙◌}
use Rattle.raft_log_memtable.specs.Table.{promise}
use Rattle.raft_log_memtable.proofs.Ready.{key_here}
use Rattle.raft_log_memtable.proofs.mem_table.MemTable.replay_put.Goals as goal

pub put-requires : goal.put-requires
put-requires c =
    ap (λ t. (promise t).has c.args.key.now) c.self.view_is
    ∙ ap (λ q. q.has c.args.key.now) c.in_ok-prepare_key.ensures.ok ∙ key_here (promise c.take_back.new.self).has c.args.key.now
