use Rattle.std.proofs.Common.{◌≡◌, ℕ, length, Option, subst, arith}
use Rattle.raft_voter_shared.specs.Receipts.{IsLeastBelow}
use Rattle.raft_voter_shared.proofs.Right.{wrong_there}
use Rattle.raft_voter_shared.proofs.receipts.Check.least_wrong.Goals as goal

pub returns-clause-none : goal.returns-clause-none
returns-clause-none g c =
    let all : c.loop-index.index ≡ length c.args.self.now.receipts.now = omega (arith, c.loop-index-test.false, c.loop-index.auto.index-end) in
    λ none. subst (λ (least : Option ℕ). IsLeastBelow c.args.self.now.first c.args.self.now.journal.now c.args.self.now.receipts.now (length c.args.self.now.receipts.now) least) none
    (subst (λ (n : ℕ). IsLeastBelow c.args.self.now.first c.args.self.now.journal.now c.args.self.now.receipts.now n c.loop-index.least) all c.loop-index.invariant)

pub returns-clause-some : goal.returns-clause-some
returns-clause-some g c =
    let all : c.loop-index.index ≡ length c.args.self.now.receipts.now = omega (arith, c.loop-index-test.false, c.loop-index.auto.index-end) in
    wrong_there c.args.self.now.first c.args.self.now.journal.now c.args.self.now.receipts.now (length c.args.self.now.receipts.now) c.loop-index.least
    (subst (λ (n : ℕ). IsLeastBelow c.args.self.now.first c.args.self.now.journal.now c.args.self.now.receipts.now n c.loop-index.least) all c.loop-index.invariant)
