use Rattle.std.proofs.Common.{◌≡◌, ◌&&◌, ◌||◌, not, rules, subst, sym, ◌∙◌}
use Rattle.raft_log_memtable.specs.Table.{replay_of, shown}
use Rattle.raft_log_memtables.specs.Bare.{HasNothing}
use Rattle.raft_log_memtables.proofs.Bare.{joined_bare}
use Rattle.raft_log_memtables.proofs.group_table.GroupTable.join.Goals as goal

pub invariant_of-self-2 : goal.invariant_of-self-2
invariant_of-self-2 c =
    let counted : (c.args.newer.counts || (c.args.self.now.counts && not (shown c.args.newer.table).cleaned)) ≡ c.if-counts.self = search rules in
    record {
      bare = λ h. subst (λ z. HasNothing z.table) (sym c.in_ok-merge_newer_neighbor.ensures.ok)
          (joined_bare (replay_of c.args.self.now.table) (replay_of c.args.newer.table) c.args.self.now.counts c.args.newer.counts c.args.self.now.bare c.args.newer.bare
          (counted ∙ h));
    }
