use Rattle.std.proofs.Common.{◌≡◌, ◌+◌, ◌-◌, ◌≤◌, ◌++◌, drop, take, vec_capacity, vec_len}
use Rattle.raft_voter_rounds.proofs.draft.front.Given as goal

-- the items so far and those to come, and room for these
abbrev pub invariant-loop : goal.invariant-loop
invariant-loop g l = record {
  front : l.front.items ++ take (l.count - l.counter) l.queue.items ≡ take l.fn.count l.fn.queue.items;
  rest : drop (l.count - l.counter) l.queue.items ≡ drop l.fn.count l.fn.queue.items;
  room : vec_len l.front + (l.count - l.counter) ≤ vec_capacity l.front;
}
