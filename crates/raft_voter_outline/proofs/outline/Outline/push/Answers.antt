use Rattle.std.proofs.Common.{◌≡◌, ◌++◌, ◌∷◌, ◌∙◌, [], List, ap}
use Rattle.raft_voter_outline.proofs.Bareness.{bare-append}
use Rattle.raft_voter_outline.proofs.Indexes.{Pair}
use Rattle.raft_voter_outline.proofs.outline.Outline.push.Goals as goal

pub invariant_of-self-2 : goal.invariant_of-self-2
invariant_of-self-2 c =
    let log = c.self.inside.terms.log in
    let more : List Pair = (c.args.term, []) ∷ [] in
    let grown : c.push.new.self.log ≡ log ++ more = c.push.ensures.log ∙ ap (λ (l : List Pair). l ++ more) c.reserve_one.ensures.log in
    record {
      bared = rw grown (bare-append log more ∙ ap (λ (l : List Pair). l ++ more) c.self.invariant.bared);
      small = rw (c.push.ensures.base, c.reserve_one.ensures.base) c.self.invariant.small;
      committed = rw (c.push.ensures.base, c.reserve_one.ensures.base) c.self.invariant.committed;
    }
