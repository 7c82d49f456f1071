use Rattle.std.proofs.Common.{refl, subst, sym}
use Rattle.raft_log_memtables.specs.Bare.{HasNothing}
use Rattle.raft_log_memtables.proofs.group_table.GroupTable.commit.Goals as goal

pub invariant_of-self-in-Command-Clean : goal.invariant_of-self-in-Command-Clean
invariant_of-self-in-Command-Clean c = record { bare = λ h. subst HasNothing (sym c.clean.ensures.shows) (record { entries = refl; values = λ k. refl }) }
