use Rattle.std.proofs.Common.{ℕ, ◌+◌, Option, sym, subst, ◌∙◌}
use Rattle.std.proofs.lemmas.Bool.{false≢true}
use Rattle.raft_voter_shared.specs.Receipts.{IsLeastBelow, IsWrongBelow}
use Rattle.raft_voter_shared.proofs.Right.{first_wrong, right_more, wrong_more}
use Rattle.raft_voter_shared.proofs.receipts.Check.lesser.Goals as goal

pub returns-then-is_right : goal.returns-then-is_right
returns-then-is_right g c =
    right_more c.args.self.now.first c.args.self.now.journal.now c.args.self.now.receipts.now c.args.index c.args.receipt.now c.requires c.args.least
    (c.is_right.ensures.0 c.if-is_right.true)

pub returns-in-Some : goal.returns-in-Some
returns-in-Some g c =
    λ before. subst (λ (place : ℕ). IsWrongBelow c.args.self.now.first c.args.self.now.journal.now c.args.self.now.receipts.now (c.args.index + 1) place) (sym c.min.ensures)
    (wrong_more c.args.self.now.first c.args.self.now.journal.now c.args.self.now.receipts.now c.args.index c.args.receipt.now c.requires c.in-Some.place
    (λ right. false≢true (sym c.if-is_right.false ∙ c.is_right.ensures.1 right))
    (subst (λ (least : Option ℕ). IsLeastBelow c.args.self.now.first c.args.self.now.journal.now c.args.self.now.receipts.now c.args.index least) c.in-Some.is before))

pub returns-in-None : goal.returns-in-None
returns-in-None g c =
    λ before. first_wrong c.args.self.now.first c.args.self.now.journal.now c.args.self.now.receipts.now c.args.index c.args.receipt.now c.requires
    (λ right. false≢true (sym c.if-is_right.false ∙ c.is_right.ensures.1 right))
    (subst (λ (least : Option ℕ). IsLeastBelow c.args.self.now.first c.args.self.now.journal.now c.args.self.now.receipts.now c.args.index least) c.in-None.is before)
