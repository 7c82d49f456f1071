use Rattle.std.proofs.Common.{◌≡◌, ◌+◌, ◌<◌, ◌≤◌, ◌++◌, true, length, map, vec_capacity, vec_len}
use Rattle.std.specs.Prelude.{◌^◌, sum_by}
use Rattle.std.specs.List.{All}
use Rattle.std.specs.VecDeque.{deque_len}
use Rattle.raft_voter_rounds.specs.Noting.{cut_each, cut_told, may_cut}
use Rattle.raft_voter_rounds.proofs.records.note_cuts.Given as goal

-- what was noted so far and what is to come, and room for this
abbrev pub invariant-loop-part : goal.invariant-loop-part
invariant-loop-part g l = record {
  counted : length l.journal.history ≡ l.book.total;
  journal : l.journal.history ++ cut_each l.start (map (λ part. part.ticket.count) l.left.items) l.asked.items l.refused
      ≡ l.fn.journal.history ++ cut_each 0 (map (λ part. part.ticket.count) l.fn.parts.items) l.fn.asked.items l.fn.refused;
  answers : map (λ done. done.answer) l.told.items ++ cut_told (length l.journal.history) l.cause (map (λ part. part.ticket.count) l.left.items)
      ≡ cut_told (length l.fn.journal.history) l.fn.cause (map (λ part. part.ticket.count) l.fn.parts.items);
  whose : map (λ done. done.ticket) l.told.items ++ map (λ part. part.ticket) l.left.items ≡ map (λ part. part.ticket) l.fn.parts.items;
  causes : All (λ part. may_cut l.cause part.ticket.count ≡ true) l.left.items;
  all : l.start + sum_by (λ part. part.ticket.count) l.left.items ≡ length l.fn.asked.items;
  records : vec_len l.journal.kept + length l.left.items ≤ vec_capacity l.journal.kept;
  more : length l.journal.history + length l.left.items < 2 ^ 64;
  room : vec_len l.told + length l.left.items ≤ vec_capacity l.told;
}

abbrev pub decreases-loop-part : goal.decreases-loop-part
decreases-loop-part g l = deque_len l.left
