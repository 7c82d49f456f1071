use Rattle.std.proofs.Common.{◌≡◌, ◌+◌, ◌≤◌, ◌++◌, length, map, vec_capacity, vec_len}
use Rattle.std.specs.Prelude.{Err}
use Rattle.std.specs.VecDeque.{deque_len}
use Rattle.raft_voter_rounds.specs.declared.receipt.SharedFault.TheVariants as faults
use Rattle.raft_voter_rounds.proofs.records.refuse_all.Given as goal

-- the answers so far and those to come, and room for these
abbrev pub invariant-loop-part : goal.invariant-loop-part
invariant-loop-part g l = record {
  answers : map (λ done. done.answer) l.done.items ++ map (λ n. Err faults.Memory) (map (λ part. part.ticket.count) l.refused.items)
      ≡ map (λ n. Err faults.Memory) (map (λ part. part.ticket.count) l.fn.parts.items);
  whose : map (λ done. done.ticket) l.done.items ++ map (λ part. part.ticket) l.refused.items ≡ map (λ part. part.ticket) l.fn.parts.items;
  room : vec_len l.done + length l.refused.items ≤ vec_capacity l.done;
}

abbrev pub decreases-loop-part : goal.decreases-loop-part
decreases-loop-part g l = deque_len l.refused
