use Rattle.std.proofs.Common.{◌≡◌, ℕ, ◌-◌, ◌≤◌, ◌∙◌, ◌++◌, List, length, sym, subst, ap, arith}
use Rattle.raft_voter_messages.specs.declared.round.Round.{Round}
use Rattle.raft_voter_history.specs.History.{HasPart}
use Rattle.raft_voter_rounds.proofs.Kept.{kept_part, takes_all}
use Rattle.raft_voter_rounds.proofs.journal.Journal.take.Goals as goal

pub claim-claim-requires : goal.claim-claim-requires
claim-claim-requires g c =
    let old = c.args.self.now in
    let kept = old.kept.items in
    let first : ℕ = old.count - length kept in
    let inside : first ≤ length old.history = omega (arith, old.counted, old.fewer) in
    subst (λ (h : List Round). HasPart h (old.count - c.len.result) c.as_slice.result.now) (sym c.check.ensures.same.1)
    (subst (λ (part : List Round). HasPart old.history (old.count - c.len.result) part) (sym c.as_slice.ensures.value)
    (subst (λ (n : ℕ). HasPart old.history n kept) (omega (arith, c.len.ensures)) (kept_part old.history kept first inside old.last)))

pub returns-clause-all : goal.returns-clause-all
returns-clause-all g c =
    let old = c.args.self.now in
    let kept = old.kept.items in
    let taken = c.args.taken.now in
    let first : ℕ = old.count - length kept in
    let many : length taken ≡ first = omega (arith, c.if-first-len.false, c.len.ensures, c.len-2.ensures, ap length c.check.ensures.same.0) in
    let now : c.add.new.self ≡ taken ++ kept =
    c.add.ensures ∙ ap (λ (l : List Round). l ++ c.claim-claim.result.1) c.check.ensures.same.0
    ∙ ap (λ (p : ℕ × List Round). taken ++ p.1) c.claim-claim.ensures.claim
    ∙ ap (λ (l : List Round). taken ++ l) c.as_slice.ensures.value in
    record {
      begins = c.check.ensures.found;
      all = λ next. (now ∙ takes_all old.history kept taken first old.last many c.check.ensures.found, rw c.replace.ensures.after (ap length c.new-2.ensures.items));
      none = λ apart. absurd (apart (omega (arith, many, old.counted, old.fewer)));
    }
