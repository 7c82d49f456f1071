use Rattle.std.proofs.Common.{OnOk, subst}
use Rattle.raft_log_memtable_index.specs.Listing.{rewritten_values, AddsAll}
use Rattle.raft_log_memtable.specs.Table.{shown}
use Rattle.raft_log_memtable.proofs.mem_table.MemTable.fetch_rewritten_kvs.Goals as goal

pub returns-clause-ok : goal.returns-clause-ok
returns-clause-ok c =
    subst (λ t. OnOk c.fetch_values.result (AddsAll (rewritten_values (shown t)) c.args.pairs.now.items c.fetch_values.new.pairs.items))
    c.self.view_is c.fetch_values.ensures.ok
