use Rattle.std.proofs.Common.{◌≡◌, ◌+◌, ◌-◌, take, drop}
use Rattle.raft_log_extents.specs.Counts.{passing}
use Rattle.raft_log_memtable_index.proofs.places.Places.count_up_to.Given as goal

abbrev pub invariant-loop-i : goal.invariant-loop-i
invariant-loop-i l =
    passing l.gate (take l.fn.limit (drop l.position l.fn.self.items))
    ≡ l.i + passing l.gate (take (l.fn.limit - l.i) (drop (l.position + l.i) l.fn.self.items))
