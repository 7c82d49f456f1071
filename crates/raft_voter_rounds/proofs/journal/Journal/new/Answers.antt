use Rattle.std.proofs.Common.{refl, sym, ap, arith, length}
use Rattle.raft_voter_rounds.proofs.journal.Journal.new.Goals as goal

pub invariant_of-result : goal.invariant_of-result
invariant_of-result g c =
    let empty = c.new.ensures.items in
    record {
      counted = sym (ap length c.requires);
      fewer = omega (arith, ap length empty);
      last = rw (empty, c.requires) refl;
      none = λ keeps. ap length empty;
    }
