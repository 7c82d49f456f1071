use Rattle.std.proofs.Common.{subst, sym}
use Rattle.raft_log_memtables.specs.Bare.{HasNothing}
use Rattle.raft_log_memtables.proofs.group_table.GroupTable.note.Goals as goal

pub invariant_of-self : goal.invariant_of-self
invariant_of-self c = record {
  bare = λ h.
      let bare = c.args.self.now.bare h in
      subst HasNothing (sym c.apply_rewrite_atomic_group.ensures.shows) (record { entries = bare.entries; values = bare.values });
}
