use Rattle.std.proofs.Common.{ℕ, ◌-◌, List, length, subst, sym}
use Rattle.raft_voter_messages.specs.declared.round.Round.{Round}
use Rattle.raft_voter_rounds.specs.declared.receipt.Statement.{Statement}
use Rattle.raft_voter_shared.specs.Receipts.{AllRight}
use Rattle.raft_voter_shared.proofs.shared.SharedStore.settle.Goals as goal

pub returns-in-None-clause-receipts : goal.returns-in-None-clause-receipts
returns-in-None-clause-receipts g c =
    let journal = c.into_inner-desk.result.journal in
    let first : ℕ = length journal.history - length journal.kept.items in
    subst (λ (n : ℕ). AllRight n c.close.result.journal.items c.args.receipts.items) (sym c.close.ensures.first)
    (subst (λ (rounds : List Round). AllRight first rounds c.args.receipts.items) (sym c.close.ensures.kept)
    (subst (λ (rs : List Statement). AllRight first journal.kept.items rs) c.as_slice-2.ensures.value c.in-None.ensures.1))
