use Rattle.std.proofs.Common.{◌≡◌, ◌+◌, map, drop}
use Rattle.raft_log_extents.specs.Counts.{passing}
use Rattle.raft_log_extents.specs.Entries.{place_of}
use Rattle.raft_log_purge_copy.proofs.entries.count_up_to.Given as goal

-- all so far pass
abbrev pub invariant-loop-i : goal.invariant-loop-i
invariant-loop-i l = passing l.gate (map place_of l.entries) ≡ l.i + passing l.gate (map place_of (drop l.i l.entries))
