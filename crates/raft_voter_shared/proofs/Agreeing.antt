-- What receipts in one history say.
use Rattle.std.proofs.Common.{◌≡◌, ℕ, zero, suc, Bool, List, [], ◌∷◌, take, slice_get, Option, Some, sym, subst, ap, ◌∙◌, arith}
use Rattle.raft_voter_messages.specs.declared.reply.Reply.{Reply}
use Rattle.raft_voter_messages.specs.declared.round.Outcome.TheVariants.{Answered}
use Rattle.raft_voter_messages.specs.declared.round.Round.{Round}
use Rattle.raft_voter.specs.Rounds.{World, replies_of}
use Rattle.raft_voter_rounds.specs.Journal.{IsLegal, behind_outcome, owed_by, reached, said}
use Rattle.raft_voter_rounds.specs.Proving.{ReceiptsAgree, RepliesAreVoters, record_of}

same_some : {A : Type 0} (x y : A) → Some x ≡ Some y → x ≡ y
same_some x y e = grind arith

same_answer : (a b : List Reply) → Answered a ≡ Answered b → a ≡ b
same_answer a b e = grind arith

-- a record of a legal history says what it owes
legal_at : (W : World) (rounds : List Round) (place : ℕ) (r : Round) → IsLegal W rounds → slice_get rounds place ≡ Some r
    → said r ≡ owed_by r.outcome (reached W (take place rounds)) r
legal_at W [] place r legal at = grind arith
legal_at W (x ∷ rounds) zero r legal at =
    let same : x ≡ r = same_some x r at in
    subst (λ (y : Round). said y ≡ owed_by y.outcome W y) same (cc (legal))
legal_at W (x ∷ rounds) (suc place) r legal at = legal_at (behind_outcome x.outcome W x) rounds place r (cc (legal)) at

pub receipts_agree : ReceiptsAgree
receipts_agree history r s mine others same =
    let one : record_of r ≡ record_of s = same_some (record_of r) (record_of s) (sym mine ∙ ap (slice_get history) same ∙ others) in
    (ap (λ (x : Round). x.requests) one, same_answer r.replies s.replies (ap (λ (x : Round). x.outcome) one))

pub replies_are_voters : RepliesAreVoters
replies_are_voters W history r legal here =
    let says = legal_at W history r.place (record_of r) legal here in
    same_some r.replies (replies_of (reached W (take r.place history)) (record_of r)) (ap (λ (x : Bool × Option (List Reply)). x.1) says)
