use Rattle.std.proofs.Common.{◌≤◌, length, take}
use Rattle.raft_log_replay_context.specs.OpenGroups.{IsSameInSlots}
use Rattle.raft_log_replay_context.proofs.open_groups.len_to_last.Given as goal

-- behind these slots stands no group
abbrev pub invariant-loop-len : goal.invariant-loop-len
invariant-loop-len l = (l.len ≤ length l.slots.items) × IsSameInSlots l.slots.items (take l.len l.slots.items)

abbrev pub decreases-loop-len : goal.decreases-loop-len
decreases-loop-len l = l.len
