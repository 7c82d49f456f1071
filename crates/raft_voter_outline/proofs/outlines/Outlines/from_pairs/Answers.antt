use Rattle.std.proofs.Common.{ap, rules}
use Rattle.std.specs.BTreeMap.{IsFromIterResult}
use Rattle.std.specs.Ordering.{nat_cmp}
use Rattle.std.specs.declared.result.Result.TheVariants.{Ok}
use Rattle.std.proofs.lemmas.Iterator.Adapters.{YieldsList-from_vec, fact_from_collect}
use Rattle.raft_voter_outline.specs.Kept.{kept_or_fresh}
use Rattle.raft_voter_outline.proofs.outlines.Outlines.from_pairs.Goals as goal

pub returns : goal.returns
returns c =
    let ran = c.in_ok-kept.ensures.ran in
    let items = ran.2.0 in
    let len = ran.2.1 in
    let made = fact_from_collect {E = Unit {0}} (IsFromIterResult nat_cmp) (Ok c.in_ok-kept.kept) (ran.1, ran.3, ran.4) (YieldsList-from_vec c.args.pairs.items items (search (rules, len))) in
    λ h. ap kept_or_fresh (made.0 h)
