use Rattle.std.proofs.Common.{rules, ◌≡◌, None, Some, ap, subst, sym, ◌∙◌}
use Rattle.std.specs.BTreeMap.{get}
use Rattle.std.specs.Ordering.{nat_cmp}
use Rattle.raft_log_memtable_index.specs.Replayed.{LeavesHole, joined}
use Rattle.raft_log_memtable.specs.Table.{replay_of}
use Rattle.raft_log_memtable.proofs.Public.{nothing_fits}
use Rattle.raft_log_memtables.specs.Tables.{replayed_in, shown_in}
use Rattle.raft_log_memtables.proofs.mem_tables.MemTables.join_table.Goals as goal

pub returns-clause-ok : goal.returns-clause-ok
returns-clause-ok c =
    let none : get nat_cmp c.args.self.now.groups c.args.group ≡ None = search rules in
    let there : get nat_cmp c.insert.new.self c.args.group ≡ Some c.follow_nothing.new.self = search rules in
    let newer = replay_of c.args.newer.table in
    record {
      read = ap replayed_in there ∙ c.follow_nothing.ensures.read ∙ ap (λ o. joined (replayed_in o) newer) (sym none);
      counting = search rules;
      fits = λ hole. nothing_fits newer (subst (λ o. LeavesHole (shown_in o) newer) none hole);
      others = search rules;
    }
