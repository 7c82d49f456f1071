use Rattle.std.proofs.Common.{◌≡◌, ◌++◌, take, drop, map}
use Rattle.raft_log_fs_memory.specs.Turns.{part_later}
use Rattle.raft_log_fs_memory.proofs.memory.turns.count_down_parts.Given as goal

-- the parts so far are one call nearer, the others are as they were
abbrev pub invariant-loop-part : goal.invariant-loop-part
invariant-loop-part l = l.parts ≡ map part_later (take l.part-index l.fn.parts) ++ drop l.part-index l.fn.parts
