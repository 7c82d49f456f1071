use Rattle.std.proofs.Common.{ap, subst, sym}
use Rattle.raft_log_memtable.specs.Table.{replay_of}
use Rattle.raft_log_memtables.proofs.Bare.{alone_bare}
use Rattle.raft_log_memtables.specs.Bare.{HasNothing}
use Rattle.raft_log_memtables.proofs.group_table.GroupTable.follow_nothing.Goals as goal

pub invariant_of-self : goal.invariant_of-self
invariant_of-self c = record {
  bare = λ h.
      subst HasNothing (sym (ap (λ z. z.table) c.follow_nothing.ensures.read)) (alone_bare (replay_of c.args.self.now.table) (c.args.self.now.bare h));
}
