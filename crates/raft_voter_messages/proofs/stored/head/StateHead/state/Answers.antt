use Rattle.std.proofs.Common.{◌≡◌, ℕ, ◌<◌, ◌^◌, Some, sym, ◌∙◌}
use Rattle.raft_voter_messages.proofs.Bytes.{no_state}
use Rattle.raft_voter_messages.proofs.stored.head.StateHead.state.Goals as goal

pub returns-then-not-state_fits-clause-none : goal.returns-then-not-state_fits-clause-none
returns-then-not-state_fits-clause-none c =
    let below : (n : ℕ) → c.in_ok-vote.vote ≡ Some n → n < 2 ^ 64 = λ n is. rw is at c.in_ok-vote.ensures.small in
    no_state c.args.self c.in_ok-vote.vote c.args.commit c.args.self.base_index c.args.self.base_term c.in_ok-vote.ensures.some below
    (sym c.state_fits.ensures ∙ c.if-not-state_fits.true)
