use Rattle.std.proofs.Common.{◌≡◌, ◌+◌, ◌≤◌, length, vec_capacity, vec_len}
use Rattle.std.specs.List.{AllZip}
use Rattle.std.specs.Vec.Iter.{into_iter_items}
use Rattle.raft_voter_rounds.specs.Handing.{HandsOut}
use Rattle.raft_voter_rounds.proofs.records.hand_out.Given as goal

-- what was handed out so far, and room for the others
abbrev pub invariant-loop-reply : goal.invariant-loop-reply
invariant-loop-reply l = record {
  handed : AllZip HandsOut l.yielded l.noted.items;
  same : l.noted.items ≡ l.handed.items;
  room : vec_len l.noted + length (into_iter_items l.reply-iterator) ≤ vec_capacity l.noted;
  more : vec_len l.handed + length (into_iter_items l.reply-iterator) ≤ vec_capacity l.handed;
}
