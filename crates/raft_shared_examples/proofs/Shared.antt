-- A store that two threads shared and that was then settled: its journal, and the records of both rounds.
use Rattle.std.proofs.Common.{◌≡◌, ℕ, List, ◌++◌, Option, Result, Ok, Err, IfOk, sym, subst}
use Rattle.std.specs.Prelude.{◌↔◌}
use Rattle.raft_voter_messages.specs.declared.request.Request.{Request}
use Rattle.raft_voter.specs.Rounds.{World}
use Rattle.raft_voter.specs.Service.{IsOpenAt, Service}
use Rattle.raft_voter_rounds.specs.declared.receipt.SharedFault.{SharedFault}
use Rattle.raft_voter_rounds.specs.declared.receipt.Statement.{Statement}
use Rattle.raft_voter_shared.specs.Receipts.{AllRight}
use Rattle.raft_shared_examples.specs.Seats.{AreServed, IsReceiptOf, place_in, receipts_in}
use Rattle.raft_shared_examples.specs.Sharing.{IsSettledFrom, IsSettledWhole}
use Rattle.raft_shared_examples.specs.declared.sharing.Settled.{Settled}
use Rattle.raft_shared_examples.proofs.Placed.{both_served}

-- an opening that serves what the store served leads to what was settled
pub settled_from : {S E : Type 0} (v : Service S) (served : World → Type 0) (old : S) (r : Result (Settled S) E) → ((W : World) → served W ↔ ∥ IsOpenAt v old W ∥₁)
    → IfOk r (λ whole. IsSettledWhole v served whole.store whole.journal.items) → IfOk r (λ settled. IsSettledFrom v old settled.store settled.journal.items)
settled_from v served old (Ok whole) same is = record {
  legal = λ W at. is.legal W ((same W).1 ∣ at ∣₁);
  serves = λ W at. is.serves W ((same W).1 ∣ at ∣₁);
}
settled_from v served old (Err error) same is = tt

-- receipts that are right for the journal show both records in it
pub rounds_served : {S E : Type 0} (one other : List (ℕ × Request)) (a b : Result Statement SharedFault) (r : Result (Settled S) E) → IsReceiptOf one a → IsReceiptOf other b
    → IfOk r (λ whole. AllRight 0 whole.journal.items (receipts_in a ++ receipts_in b)) → IfOk r (λ whole. whole.first ≡ place_in a) → IfOk r (λ whole. whole.second ≡ place_in b)
    → IfOk r (λ settled. AreServed settled.journal.items one settled.first other settled.second)
rounds_served one other a b (Ok whole) asked also right first second =
    subst (λ (place : Option ℕ). AreServed whole.journal.items one place other whole.second) (sym first)
    (subst (λ (place : Option ℕ). AreServed whole.journal.items one (place_in a) other place) (sym second)
    (both_served whole.journal.items one other a b asked also right))
rounds_served one other a b (Err error) asked also right first second = tt
