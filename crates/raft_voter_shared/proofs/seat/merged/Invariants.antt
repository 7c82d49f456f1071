use Rattle.std.proofs.Common.{◌≡◌, ◌+◌}
use Rattle.std.specs.Prelude.{sum_by}
use Rattle.raft_voter_shared.proofs.seat.merged.Given as goal

-- the share so far, and those of the seats that are left
abbrev pub invariant-loop-seat : goal.invariant-loop-seat
invariant-loop-seat g l = record {
  parts : l.whole.parts + sum_by (λ seat. seat.parts) l.seats.items ≡ sum_by (λ seat. seat.parts) l.fn.seats.items;
  amount : l.whole.amount + sum_by (λ seat. seat.turn) l.seats.items ≡ sum_by (λ seat. seat.turn) l.fn.seats.items;
}

abbrev pub decreases-loop-seat : goal.decreases-loop-seat
decreases-loop-seat g l = goal.left-loop-seat g l
