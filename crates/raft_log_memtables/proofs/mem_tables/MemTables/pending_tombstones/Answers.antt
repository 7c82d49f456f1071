use Rattle.std.proofs.Common.{◌++◌, subst}
use Rattle.std.proofs.lemmas.Map.Keys.{IsDistinct-from_sorted}
use Rattle.std.specs.BTreeMap.{keys}
use Rattle.std.specs.Ordering.{nat_cmp}
use Rattle.raft_log_memtables.proofs.Segments.{once_each}
use Rattle.raft_log_memtables.proofs.Owed.{all_owed, owes_more, OwesAll}
use Rattle.raft_log_memtables.proofs.mem_tables.MemTables.pending_tombstones.Goals as goal

pub returns : goal.returns
returns c =
    let m = c.args.self.now in
    all_owed m c.loop-group.items.items c.loop-group.group-iterator c.in-None.ensures.steps.0
    (once_each m.groups.entries (IsDistinct-from_sorted nat_cmp (keys m.groups) c.iter-group-items.ensures.ordered)) c.loop-group.invariant

pub loop-group-preserved : goal.loop-group-preserved
loop-group-preserved c =
    owes_more c.args.self.now.groups.entries c.next.new.self (c.in-Some.group.now, c.in-Some.table.now) c.loop-group.items.items c.add_owed.new.items.items
    (subst (λ l. (ys : _) → OwesAll l ys → OwesAll c.args.self.now.groups.entries (c.loop-group.items.items ++ ys)) c.in-Some.ensures.steps c.loop-group.invariant)
    c.in_ok-add_owed.ensures
