use Rattle.std.proofs.Common.{◌≡◌, ◌+◌, ◌-◌, ◌≤◌, Some, take, drop}
use Rattle.raft_log_extents.specs.Counts.{fitting, sized}
use Rattle.raft_log_memtable_index.proofs.places.Places.sized.Given as goal

abbrev pub invariant-loop-i : goal.invariant-loop-i
invariant-loop-i l =
    (sized (Some l.max_size) (take l.count (drop l.position l.fn.self.items))
    ≡ l.i + fitting l.left (take (l.count - l.i) (drop (l.position + l.i) l.fn.self.items)))
    × (l.i ≤ l.count)
