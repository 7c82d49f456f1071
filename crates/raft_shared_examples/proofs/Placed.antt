-- The receipts of two threads are right for the journal, so each has a record of its own.
use Rattle.std.proofs.Common.{◌≡◌, ◌∙◌, ℕ, ◌==◌, true, false, List, [], ◌∷◌, ◌++◌, Some, Result, Ok, Err, refl, sym, ap, subst, arith}
use Rattle.std.specs.Prelude.{slice_get}
use Rattle.std.proofs.lemmas.Bool.{false≢true}
use Rattle.std.proofs.lemmas.Bool.Decides.{nat_tests}
use Rattle.raft_voter_messages.specs.declared.request.Request.{Request}
use Rattle.raft_voter_messages.specs.declared.round.Round.{Round}
use Rattle.raft_voter_shared.specs.Receipts.{AllRight, IsRight, clashes}
use Rattle.raft_voter_rounds.specs.declared.receipt.Statement.{Statement}
use Rattle.raft_voter_rounds.specs.declared.receipt.SharedFault.{SharedFault}
use Rattle.raft_shared_examples.specs.Seats.{AreServed, HasRecord, IsReceiptOf, place_in, receipts_in}

-- a right receipt has its record
recorded : (journal : List Round) (requests : List (ℕ × Request)) (receipts : List Statement) (index : ℕ) (r : Statement) → r.requests ≡ requests → IsRight 0 journal receipts index r → HasRecord journal requests r.place
recorded journal requests receipts index r asked right = record {
  round = right.stands.round;
  replies = r.replies;
  at = subst (λ (n : ℕ). slice_get journal n ≡ Some right.stands.round) (omega arith) right.stands.at;
  requested = right.stands.is.0 ∙ asked;
  replied = right.stands.is.1;
}

-- of two right receipts each has a place of its own
apart : (r s : Statement) → clashes (r ∷ s ∷ []) 0 r ≡ false → r.place ≡ s.place → ⊥
apart r s alone same =
    let equal : (s.place == r.place) ≡ true = grind (arith, nat_tests, same) in
    let both : clashes (r ∷ s ∷ []) 0 r ≡ true = rw equal refl in
    false≢true (sym alone ∙ both)

pub both_served : (journal : List Round) (one other : List (ℕ × Request)) (a b : Result Statement SharedFault) → IsReceiptOf one a → IsReceiptOf other b → AllRight 0 journal (receipts_in a ++ receipts_in b)
    → AreServed journal one (place_in a) other (place_in b)
both_served journal one other (Ok r) (Ok s) asked also right =
    let first : IsRight 0 journal (r ∷ s ∷ []) 0 r = right 0 r (omega arith) refl in
    record {
      of_one = recorded journal one (r ∷ s ∷ []) 0 r asked first;
      of_other = recorded journal other (r ∷ s ∷ []) 1 s also (right 1 s (omega arith) refl);
      apart = apart r s first.alone;
    }
both_served journal one other (Ok r) (Err fault) asked also right =
    record { of_one = recorded journal one (r ∷ []) 0 r asked (right 0 r (omega arith) refl); of_other = tt; apart = tt }
both_served journal one other (Err fault) (Ok s) asked also right =
    record { of_one = tt; of_other = recorded journal other (s ∷ []) 0 s also (right 0 s (omega arith) refl); apart = tt }
both_served journal one other (Err fault) (Err faults) asked also right = record { of_one = tt; of_other = tt; apart = tt }

-- receipts that were added to none, one after another, are those of both
pub both_right : (first : ℕ) (journal : List Round) (none some all one other : List Statement) → first ≡ 0 → none ≡ [] → some ≡ none ++ one → all ≡ some ++ other → AllRight first journal all → AllRight 0 journal (one ++ other)
both_right first journal none some all one other zero empty asked also right =
    let same : all ≡ one ++ other = also ∙ ap (λ (rs : List Statement). rs ++ other) (asked ∙ ap (λ (rs : List Statement). rs ++ one) empty) in
    subst (λ (n : ℕ). AllRight n journal (one ++ other)) zero (subst (λ (rs : List Statement). AllRight first journal rs) same right)
