use Rattle.std.proofs.Common.{◌≡◌, ◌++◌, map}
use Rattle.std.specs.Vec.Iter.{into_iter_items}
use Rattle.raft_log_replay_context.specs.OpenGroups.{begun_in, begun_of}
use Rattle.raft_log_replay_context.proofs.open_groups.OpenGroups.into_groups.Given as goal

-- the groups so far, and those in the other slots, are all
abbrev pub invariant-loop-slot : goal.invariant-loop-slot
invariant-loop-slot l = map begun_of l.groups.items ++ begun_in (into_iter_items l.slot-iterator) ≡ l.fn.self
