use Rattle.std.proofs.Common.{◌≡◌, ◌++◌, ◌∙◌, List, ap}
use Rattle.raft_voter_outline.specs.Runs.{bare}
use Rattle.raft_voter_outline.proofs.Bareness.{bare-append, bare-bare}
use Rattle.raft_voter_outline.proofs.Indexes.{Pair}
use Rattle.raft_voter_outline.proofs.outline.Outline.restore.Goals as goal

pub invariant_of-outline : goal.invariant_of-outline
invariant_of-outline c =
    let log = c.outline.inside.terms.log in
    let more : List Pair = bare c.args.log.now in
    let grown : c.extend.new.self.log ≡ log ++ more = c.extend.ensures.log ∙ ap (λ (l : List Pair). l ++ more) c.reserve.ensures.log in
    record {
      bared = rw grown (bare-append log more ∙ ap (λ (l : List Pair). l ++ bare more) c.outline.invariant.bared ∙ ap (λ (l : List Pair). log ++ l) (bare-bare c.args.log.now));
      small = rw (c.extend.ensures.base, c.reserve.ensures.base) c.outline.invariant.small;
      committed = rw (c.extend.ensures.base, c.reserve.ensures.base) c.outline.invariant.committed;
    }
