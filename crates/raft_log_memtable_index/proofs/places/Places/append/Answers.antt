use Rattle.std.proofs.Common.{◌≡◌, ◌+◌, ◌-◌, ap, arith, length, subst}
use Rattle.raft_log_extents.specs.RunLists.{places, HasRoom}
use Rattle.raft_log_memtable_index.proofs.places.Places.append.Goals as goal

pub invariant_of-self : goal.invariant_of-self
invariant_of-self c =
    let p = c.self.inside in
    let more = c.more.inside.runs in
    let n = length (places more) in
    let wanted = ap (λ q. q.wanted) c.self.view_is in
    let items = ap (λ q. length q.items) c.more.view_is in
    let left = (p.wanted - c.len.result) + (p.moves + p.moves) in
    c.append.ensures.room left (subst (HasRoom p.runs) (let same : p.wanted + (p.moves + p.moves) ≡ n + left = omega (arith, wanted, items, c.len.ensures, c.requires) in same) c.self.invariant)
