use Rattle.std.proofs.lemmas.Map.Keys.{IsDistinct-from_sorted}
use Rattle.std.proofs.Common.{true}
use Rattle.std.specs.BTreeMap.{keys}
use Rattle.std.specs.Ordering.{nat_cmp}
use Rattle.raft_log_memtables.proofs.Counting.{counts_one_more, each_counted}
use Rattle.raft_log_memtables.proofs.Groups.{all_known, group_list}
use Rattle.raft_log_memtables.proofs.Segments.{once_each}
use Rattle.raft_log_memtables.proofs.mem_tables.MemTables.standing_count.Goals as goal

pub returns : goal.returns
returns c =
    let es = c.args.self.now.groups.entries in
    let sorted = c.iter-table-items.ensures.ordered in
    let once = once_each es (IsDistinct-from_sorted nat_cmp (keys c.args.self.now.groups) sorted) in (
      group_list true es,
      all_known es once sorted,
      each_counted es c.loop-table.table-iterator c.loop-table.count c.in-None.ensures.steps.0 once c.loop-table.invariant,
    )

pub loop-table-preserved : goal.loop-table-preserved
loop-table-preserved c =
    counts_one_more _ c.loop-table.table-iterator c.next.new.self c.loop-table.count c.standing_count.result c.saturating_add-count.result _
    c.in-Some.ensures.steps c.standing_count.ensures c.saturating_add-count.ensures c.loop-table.invariant
