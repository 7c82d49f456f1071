use Rattle.std.proofs.Common.{◌≡◌, ◌+◌, ◌<◌, ◌≤◌, ◌++◌, length, map, vec_capacity, vec_len}
use Rattle.std.specs.Prelude.{◌^◌}
use Rattle.std.specs.List.{All, flat_map}
use Rattle.std.specs.VecDeque.{deque_len}
use Rattle.raft_voter_rounds.specs.Noting.{answered_each, told_each}
use Rattle.raft_voter_rounds.proofs.records.note_answers.Given as goal

-- what was noted so far and what is to come, and room for this
abbrev pub invariant-loop-part : goal.invariant-loop-part
invariant-loop-part g l = record {
  counted : length l.journal.history ≡ l.book.total;
  journal : l.journal.history ++ answered_each (map (λ part. part.ticket.count) l.parts.items) l.asked.items l.noted.items
      ≡ l.fn.journal.history ++ answered_each (map (λ part. part.ticket.count) l.fn.parts.items) l.fn.asked.items l.fn.noted.items;
  answers : map (λ done. done.answer) l.done.items ++ told_each (length l.journal.history) (map (λ part. part.ticket.count) l.parts.items) l.noted.items
      ≡ told_each (length l.fn.journal.history) (map (λ part. part.ticket.count) l.fn.parts.items) l.fn.noted.items;
  whose : map (λ done. done.ticket) l.done.items ++ map (λ part. part.ticket) l.parts.items ≡ map (λ part. part.ticket) l.fn.parts.items;
  same : l.noted.items ≡ l.handed.items;
  each : flat_map (λ part. part.requests) l.parts.items ≡ l.asked.items;
  short : All (λ part. part.ticket.count ≤ 4096) l.parts.items;
  records : vec_len l.journal.kept + length l.parts.items ≤ vec_capacity l.journal.kept;
  more : length l.journal.history + length l.parts.items < 2 ^ 64;
  room : vec_len l.done + length l.parts.items ≤ vec_capacity l.done;
}

abbrev pub decreases-loop-part : goal.decreases-loop-part
decreases-loop-part g l = deque_len l.parts
