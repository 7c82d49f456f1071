use Rattle.std.proofs.Common.{◌+◌}
use Rattle.raft_log_memtable_index.proofs.places.Places.drop_front.Goals as goal

pub invariant_of-self : goal.invariant_of-self
invariant_of-self c = let p = c.self.inside in c.drop_front.ensures.room (p.wanted + (p.moves + p.moves)) c.self.invariant
