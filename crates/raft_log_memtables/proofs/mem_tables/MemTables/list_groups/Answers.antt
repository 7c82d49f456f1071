use Rattle.std.proofs.lemmas.Map.Keys.{IsDistinct-from_sorted}
use Rattle.std.specs.BTreeMap.{keys}
use Rattle.std.specs.Ordering.{nat_cmp}
use Rattle.raft_log_memtables.proofs.Segments.{once_each}
use Rattle.raft_log_memtables.proofs.Groups.{all_listed}
use Rattle.raft_log_memtables.proofs.mem_tables.MemTables.list_groups.Goals as goal

pub returns : goal.returns
returns c =
    let es = c.args.self.now.groups.entries in
    let sorted = c.iter-group-items.ensures.ordered in
    all_listed c.args.all es c.loop-group.groups.items c.loop-group.group-iterator c.in-None.ensures.steps.0 c.loop-group.invariant
    (once_each es (IsDistinct-from_sorted nat_cmp (keys c.args.self.now.groups) sorted)) sorted
