use Rattle.std.proofs.Common.{ℕ, List, Option, length, subst}
use Rattle.raft_voter_shared.specs.Clashing.{RiseBelow}
use Rattle.raft_voter_shared.proofs.Clashing.{none_clashes}
use Rattle.raft_voter_shared.proofs.clashes.are_apart.Goals as goal

pub returns-in-Some : goal.returns-in-Some
returns-in-Some g c =
    λ yes. none_clashes c.args.first c.args.receipts.now c.in-Some.turns.items c.in-Some.ensures
    (subst (λ (l : List (Option (ℕ × ℕ))). RiseBelow l (length l)) c.as_slice.ensures.value (c.do_rise.ensures yes))
