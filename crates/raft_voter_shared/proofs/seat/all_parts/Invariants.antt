use Rattle.std.proofs.Common.{◌≡◌, ◌+◌, drop}
use Rattle.std.specs.Prelude.{sum_by}
use Rattle.raft_voter_shared.proofs.seat.all_parts.Given as goal

abbrev pub invariant-loop-seat : goal.invariant-loop-seat
invariant-loop-seat g l = l.parts + sum_by (λ seat. seat.parts) (drop l.seat-index l.seats) ≡ sum_by (λ seat. seat.parts) l.seats
