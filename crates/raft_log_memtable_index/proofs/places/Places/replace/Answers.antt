use Rattle.std.proofs.Common.{◌≡◌, ◌+◌, ◌-◌, ap, arith, length, subst}
use Rattle.raft_log_extents.specs.RunLists.{HasRoom}
use Rattle.raft_log_memtable_index.proofs.places.Places.replace.Goals as goal

pub invariant_of-self : goal.invariant_of-self
invariant_of-self c =
    let p = c.self.inside in
    let n = length c.args.entries.now in
    let moves = ap (λ q. q.moves) c.self.view_is in
    let left = p.wanted + ((p.moves - n) + (p.moves - n)) in
    c.replace.ensures.room left (subst (HasRoom p.runs) (let same : p.wanted + (p.moves + p.moves) ≡ n + n + left = omega (arith, moves, c.requires.room) in same) c.self.invariant)
