use Rattle.std.proofs.Common.{true, ◌∙◌}
use Rattle.std.proofs.lemmas.Map.Keys.{IsDistinct-from_sorted}
use Rattle.std.specs.BTreeMap.{keys}
use Rattle.std.specs.Ordering.{nat_cmp}
use Rattle.raft_log_memtables.proofs.Counting.{all_found, counts_none, counts_one_more, each_counted}
use Rattle.raft_log_memtables.proofs.Groups.{all_known, group_list}
use Rattle.raft_log_memtables.proofs.Leasts.{least_first, least_more, least_of_all}
use Rattle.raft_log_memtables.proofs.Segments.{once_each}
use Rattle.raft_log_memtables.proofs.mem_tables.MemTables.min_file_and_live_count.Goals as goal

pub loop-table-init : goal.loop-table-init
loop-table-init c =
    let m = c.args.self.now in
    let sorted = c.iter-table-items.ensures.ordered in (
      least_first c.args.queue c.args.limit m c.into_iter-table-iterator.result (c.into_iter-table-iterator.ensures.into_iter_gives ∙ c.iter-table-items.ensures.rest) (all_found m.groups.entries (once_each m.groups.entries (IsDistinct-from_sorted nat_cmp (keys m.groups) sorted))),
      counts_none m.groups.entries c.into_iter-table-iterator.result (c.into_iter-table-iterator.ensures.into_iter_gives ∙ c.iter-table-items.ensures.rest),
    )

pub loop-table-preserved : goal.loop-table-preserved
loop-table-preserved c =
    let e = c.lesser_in-least.ensures in (
      least_more c.args.queue c.args.limit c.args.self.now c.loop-table.table-iterator c.next.new.self c.loop-table.least c.lesser_in-least.result _
          c.in-Some.ensures.steps e.limited e.below e.exact c.loop-table.invariant.0,
      counts_one_more _ c.loop-table.table-iterator c.next.new.self c.loop-table.standing c.standing_count.result c.saturating_add-standing.result _
          c.in-Some.ensures.steps c.standing_count.ensures c.saturating_add-standing.ensures c.loop-table.invariant.1,
    )

pub returns-clause-least : goal.returns-clause-least
returns-clause-least c = least_of_all c.args.queue c.args.limit c.args.self.now c.loop-table.table-iterator c.loop-table.least c.in-None.ensures.steps.0 c.loop-table.invariant.0

pub returns-clause-standing : goal.returns-clause-standing
returns-clause-standing c =
    let es = c.args.self.now.groups.entries in
    let sorted = c.iter-table-items.ensures.ordered in
    let once = once_each es (IsDistinct-from_sorted nat_cmp (keys c.args.self.now.groups) sorted) in (
      group_list true es,
      all_known es once sorted,
      each_counted es c.loop-table.table-iterator c.loop-table.standing c.in-None.ensures.steps.0 once c.loop-table.invariant.1,
    )
