use Rattle.std.proofs.Common.{subst, arith}
use Rattle.raft_log_memtable.specs.Reads.{StandIn}
use Rattle.raft_log_memtable.specs.Table.{shown}
use Rattle.raft_log_memtable.proofs.mem_table.MemTable.standing_count.Goals as goal

pub returns : goal.returns
returns c =
    let (pairs, all, count) = c.rewritten_count.ensures in
    subst (λ m. StandIn (shown m) c.saturating_add.result) c.self.view_is
    (pairs, all, omega (arith, count, c.saturating_add.ensures))
