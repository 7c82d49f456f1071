use Rattle.std.proofs.Common.{OnOk, option_copied, subst}
use Rattle.raft_log_memtable_index.specs.Listing.{values_within, AddsAll}
use Rattle.raft_log_memtable.specs.Table.{shown}
use Rattle.raft_log_memtable.proofs.mem_table.MemTable.fetch_kvs_within.Goals as goal

pub returns-clause-ok : goal.returns-clause-ok
returns-clause-ok c =
    subst (λ t. OnOk c.fetch_within.result (AddsAll (values_within (option_copied c.args.start) (option_copied c.args.end) (shown t)) c.args.pairs.now.items c.fetch_within.new.pairs.items))
    c.self.view_is c.fetch_within.ensures.ok
