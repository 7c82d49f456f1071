use Rattle.std.proofs.Common.{refl, subst, sym}
use Rattle.raft_log_memtables.specs.Bare.{HasNothing}
use Rattle.raft_log_memtables.proofs.group_table.GroupTable.new.Goals as goal

pub invariant_of-result : goal.invariant_of-result
invariant_of-result c = record { bare = λ h. subst HasNothing (sym c.new.ensures.shows) (record { entries = refl; values = λ k. refl }) }
