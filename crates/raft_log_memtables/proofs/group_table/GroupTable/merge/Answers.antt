use Rattle.std.proofs.Common.{◌≡◌, ◌&&◌, ◌||◌, not, rules, subst, sym, ◌∙◌}
use Rattle.raft_log_memtable.specs.Table.{replay_of, shown}
use Rattle.raft_log_memtables.specs.Bare.{HasNothing}
use Rattle.raft_log_memtables.proofs.Bare.{merged_bare}
use Rattle.raft_log_memtables.proofs.group_table.GroupTable.merge.Goals as goal

pub invariant_of-self-2 : goal.invariant_of-self-2
invariant_of-self-2 c =
    let counted : (c.args.append.counts || (c.args.self.now.counts && not (shown c.args.append.table).cleaned)) ≡ c.if-counts.self = search rules in
    record {
      bare = λ h. subst HasNothing (sym c.in_ok-merge_append_table.ensures.ok)
          (merged_bare (shown c.args.self.now.table) (replay_of c.args.append.table) c.args.self.now.counts c.args.append.counts c.args.self.now.bare c.args.append.bare
          (counted ∙ h));
    }
