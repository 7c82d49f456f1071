use Rattle.std.proofs.Common.{ap, ◌∙◌}
use Rattle.raft_log_memtable_index.specs.Shown.{with_del}
use Rattle.raft_log_memtable.specs.Table.{shown}
use Rattle.raft_log_memtable.specs.contracts.mem_table.MemTable.{the_view}
use Rattle.raft_log_memtable.proofs.mem_table.MemTable.delete.Goals as goal

pub returns-clause-shows : goal.returns-clause-shows
returns-clause-shows c =
    ap (λ ks. record (shown (the_view c.self.inside)) { held = ks.values; deleted = ks.deleted }) c.delete.ensures
    ∙ ap (λ t. with_del (shown t) c.args.key.now) c.self.view_is
