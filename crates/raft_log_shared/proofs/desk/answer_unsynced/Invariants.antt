use Rattle.std.proofs.Common.{◌≡◌, ◌+◌, ◌≤◌, ◌++◌, false, length, map, vec_capacity, vec_len}
use Rattle.std.specs.List.{All}
use Rattle.std.specs.VecDeque.{deque_len}
use Rattle.raft_log_shared.specs.Receipts.{waits}
use Rattle.raft_log_shared.proofs.desk.answer_unsynced.Given as goal

-- the answers so far and those to come, and room for these
abbrev pub invariant-loop-part : goal.invariant-loop-part
invariant-loop-part g l = record {
  whose : map (λ done. done.ask) l.done.items ++ map (λ part. part.ask) l.parts.items ≡ map (λ part. part.ask) l.fn.parts.items;
  none : All (λ part. waits part.sync part.result ≡ false) l.parts.items;
  room : vec_len l.done + length l.parts.items ≤ vec_capacity l.done;
}

abbrev pub decreases-loop-part : goal.decreases-loop-part
decreases-loop-part g l = deque_len l.parts
