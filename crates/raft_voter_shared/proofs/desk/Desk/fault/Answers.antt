use Rattle.std.proofs.Common.{◌≡◌, ℕ, ◌-◌, List, length, subst, ◌∙◌}
use Rattle.raft_voter_messages.specs.declared.round.Round.{Round}
use Rattle.raft_voter_rounds.specs.declared.receipt.Statement.{Statement}
use Rattle.raft_voter_shared.specs.Receipts.{AllRight, IsLeastWrong}
use Rattle.raft_voter_shared.proofs.desk.Desk.fault.Goals as goal

pub returns-in-None : goal.returns-in-None
returns-in-None g c =
    let journal = c.args.self.now.journal in
    let check = c.new-check.result in
    let first : check.first ≡ length journal.history - length journal.kept.items = c.new-check.ensures.first ∙ c.first-first.ensures in
    let kept = c.new-check.ensures.journal ∙ c.kept.ensures in (
      c.have_all.ensures.0 c.if-not-have_all.false ∙ c.requires,
      subst (λ (n : ℕ). AllRight n journal.kept.items c.args.receipts.now) first
          (subst (λ (rounds : List Round). AllRight check.first rounds c.args.receipts.now) kept
          (subst (λ (rs : List Statement). AllRight check.first check.journal.now rs) c.new-check.ensures.receipts (c.least_wrong.ensures.none c.in-None.is))),
    )

pub returns-in-Some : goal.returns-in-Some
returns-in-Some g c =
    let journal = c.args.self.now.journal in
    let check = c.new-check.result in
    let place : ℕ = c.in-Some.place in
    let first : check.first ≡ length journal.history - length journal.kept.items = c.new-check.ensures.first ∙ c.first-first.ensures in
    let kept = c.new-check.ensures.journal ∙ c.kept.ensures in (
      c.have_all.ensures.0 c.if-not-have_all.false ∙ c.requires,
      subst (λ (n : ℕ). IsLeastWrong n journal.kept.items c.args.receipts.now place) first
          (subst (λ (rounds : List Round). IsLeastWrong check.first rounds c.args.receipts.now place) kept
          (subst (λ (rs : List Statement). IsLeastWrong check.first check.journal.now rs place) c.new-check.ensures.receipts c.in-Some.ensures.some)),
    )
