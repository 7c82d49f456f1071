use Rattle.std.proofs.Common.{◌≡◌, drop}
use Rattle.raft_log_fs_memory.specs.Turns.{front_of}
use Rattle.raft_log_fs_memory.proofs.memory.turns.next_front.Given as goal

-- none of the parts so far falls
abbrev pub invariant-loop-part : goal.invariant-loop-part
invariant-loop-part l = front_of l.parts ≡ front_of (drop l.part-index l.parts)
