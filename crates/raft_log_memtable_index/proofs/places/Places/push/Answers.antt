use Rattle.std.proofs.Common.{◌≡◌, ◌+◌, ◌-◌, ap, arith, length, subst}
use Rattle.raft_log_extents.specs.RunLists.{HasRoom}
use Rattle.raft_log_memtable_index.proofs.places.Places.push.Goals as goal

pub invariant_of-self : goal.invariant_of-self
invariant_of-self c =
    let p = c.self.inside in
    let n = length c.args.entries.now in
    let wanted = ap (λ q. q.wanted) c.self.view_is in
    let left = (p.wanted - n) + (p.moves + p.moves) in
    c.push.ensures.room left (subst (HasRoom p.runs) (let same : p.wanted + (p.moves + p.moves) ≡ n + left = omega (arith, wanted, c.requires) in same) c.self.invariant)
