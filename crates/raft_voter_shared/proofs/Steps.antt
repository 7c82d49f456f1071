-- What rounds that are served together make of a store and its journal.
use Rattle.std.proofs.Common.{◌≡◌, ℕ, Bool, true, false, is_some, List, [], ◌++◌, length, sum, Option, None, refl, sym, ap, subst, ◌∙◌}
use Rattle.std.proofs.Math.Logic.{∥∥₁_elim, ∥∥₁_map}
use Rattle.std.proofs.Props.{props}
use Rattle.raft_voter_messages.specs.declared.reply.Reply.{Reply}
use Rattle.raft_voter_messages.specs.declared.request.Request.{Request}
use Rattle.raft_voter_messages.specs.declared.round.Round.{Round}
use Rattle.raft_voter.specs.Rounds.{World, are_rising}
use Rattle.raft_voter.specs.Service.{AnswersRound, CutRound, CutsOff, FailsAs, IsOpenAt, Service}
use Rattle.raft_voter.specs.declared.service.Cause.{Cause}
use Rattle.raft_voter.specs.declared.service.Cause.TheVariants.{FileSystem, Memory, Failed, TooLong}
use Rattle.raft_voter_rounds.specs.Journal.{IsLegal, reached}
use Rattle.raft_voter_rounds.specs.declared.receipt.SharedFault.TheVariants as faults
use Rattle.raft_voter_rounds.specs.Noting.{answered_each}
use Rattle.raft_voter_shared.specs.declared.failure.Failure.{Failure}
use Rattle.raft_voter_shared.specs.Standing.{failure_behind, is_last, standing}
use Rattle.raft_voter_shared.proofs.Journals.{AreCutOff, last-append, last_here, legal-append, reached-append, standing-append, standing_here}
use Rattle.raft_voter_shared.proofs.Splitting.{each_is_legal}

-- a legal history is a fact
pub legal_prop : (W : World) (rounds : List Round) → IsProp (IsLegal W rounds)
legal_prop W rounds = Prim.hlevel props

module _ {S : Type 0} (v : Service S) (old new : S) (rounds : List Round) (requests : List (ℕ × Request)) where
  -- Answered rounds.

  pub answered_opens :
      (counts : List ℕ) (replies : List Reply) → sum counts ≡ length requests → AnswersRound v requests replies old new
      → (W : World) → ∥ IsOpenAt v old (reached W rounds) ∥₁
      → ∥ IsOpenAt v new (reached W (rounds ++ answered_each counts requests replies)) ∥₁
  answered_opens counts replies all answers W opens =
      ∥∥₁_map opens (λ o.
      let x = answers (reached W rounds) o in
      let each = each_is_legal counts (reached W rounds) x.0 requests replies all x.1 in
      subst (λ (X : World). IsOpenAt v new X)
      (sym each.1 ∙ sym (reached-append W rounds (answered_each counts requests replies)))
      x.2)

  pub answered_legal :
      (counts : List ℕ) (replies : List Reply) → sum counts ≡ length requests → AnswersRound v requests replies old new
      → (W : World) → ∥ IsOpenAt v old (reached W rounds) ∥₁ → IsLegal W rounds
      → IsLegal W (rounds ++ answered_each counts requests replies)
  answered_legal counts replies all answers W opens legal =
      ∥∥₁_elim opens (legal_prop W (rounds ++ answered_each counts requests replies)) (λ o.
      let x = answers (reached W rounds) o in
      legal-append W rounds (answered_each counts requests replies) legal
      (each_is_legal counts (reached W rounds) x.0 requests replies all x.1).0)

  -- Rounds that were cut off.

  pub cut_rising :
      (cause : Cause) (refused : List ℕ) → CutsOff v cause refused requests old new
      → are_rising 0 (length requests) refused ≡ true
  cut_rising FileSystem refused cuts = cuts.rising
  cut_rising Memory refused cuts = ap (are_rising 0 (length requests)) cuts.none
  cut_rising Failed refused cuts = ap (are_rising 0 (length requests)) cuts.none
  cut_rising TooLong refused cuts = ap (are_rising 0 (length requests)) cuts.none

  pub cut_legal :
      (refused : List ℕ) (cut : List Round) → AreCutOff requests refused cut → (W : World)
      → IsLegal W rounds → IsLegal W (rounds ++ cut)
  cut_legal refused cut are W legal = legal-append W rounds cut legal (are.legal (reached W rounds))

  pub cut_opens :
      (cause : Cause) (refused : List ℕ) (cut : List Round) → AreCutOff requests refused cut
      → CutsOff v cause refused requests old new
      → FailsAs cause (length requests) (v.is_failed old) (v.is_failed new) → (W : World)
      → (v.is_failed old ≡ false → ∥ IsOpenAt v old (reached W rounds) ∥₁)
      → v.is_failed new ≡ false → ∥ IsOpenAt v new (reached W (rounds ++ cut)) ∥₁
  cut_opens cause refused cut are cuts fails W opens alive =
      subst (λ (X : World). ∥ IsOpenAt v new X ∥₁) (sym (reached-append W rounds cut ∙ are.stays (reached W rounds)))
      (go cause cuts fails)
    where
      go : (cause : Cause) → CutsOff v cause refused requests old new
          → FailsAs cause (length requests) (v.is_failed old) (v.is_failed new) → ∥ IsOpenAt v new (reached W rounds) ∥₁
      go FileSystem cuts fails = absurd (cc)
      go Memory cuts fails = ∥∥₁_map (opens fails.1) (cuts.served (reached W rounds))
      go Failed cuts fails = absurd (cc)
      go TooLong cuts fails = ∥∥₁_map (opens (sym fails.1 ∙ alive)) (cuts.served (reached W rounds))

  pub cut_leaves :
      (cause : Cause) (refused : List ℕ) (cut : List Round) (failure : Option Failure) → AreCutOff requests refused cut
      → CutsOff v cause refused requests old new
      → FailsAs cause (length requests) (v.is_failed old) (v.is_failed new) → is_last failure rounds ≡ true → (W : World)
      → (v.is_failed old ≡ false → ∥ IsOpenAt v old (reached W rounds) ∥₁)
      → ∥ v.leaves old (standing W rounds failure) ∥₁
      → ∥ v.leaves new (standing W (rounds ++ cut) (failure_behind cause (length rounds) (length (rounds ++ cut)) failure)) ∥₁
  cut_leaves cause refused cut failure are cuts fails last W opens left = go cause cuts fails
    where
      same : ((stood : CutRound) → v.leaves old stood → v.leaves new stood)
          → ∥ v.leaves new (standing W (rounds ++ cut) failure) ∥₁
      same stays =
          subst (λ (stood : CutRound). ∥ v.leaves new stood ∥₁) (sym (standing-append W failure rounds requests refused cut are last))
          (∥∥₁_map left (stays (standing W rounds failure)))

      go : (cause : Cause) → CutsOff v cause refused requests old new
          → FailsAs cause (length requests) (v.is_failed old) (v.is_failed new)
          → ∥ v.leaves new (standing W (rounds ++ cut) (failure_behind cause (length rounds) (length (rounds ++ cut)) failure)) ∥₁
      go FileSystem cuts fails =
          subst (λ (stood : CutRound). ∥ v.leaves new stood ∥₁) (sym (standing_here W rounds requests refused cut are))
          (∥∥₁_map (opens fails.1) (cuts.left (reached W rounds)))
      go Memory cuts fails = same cuts.left
      go Failed cuts fails = same cuts.left
      go TooLong cuts fails = same cuts.left

-- how a store came to fail is known behind rounds that were cut off as it was before
pub cut_alive :
    (cause : Cause) (count first end : ℕ) (failure : Option Failure) (before now : Bool) → FailsAs cause count before now
    → (before ≡ false → failure ≡ None) → now ≡ false → failure_behind cause first end failure ≡ None
cut_alive FileSystem count first end failure before now fails none alive = absurd (cc)
cut_alive Memory count first end failure before now fails none alive = none fails.1
cut_alive Failed count first end failure before now fails none alive = absurd (cc)
cut_alive TooLong count first end failure before now fails none alive = none (sym fails.1 ∙ alive)

pub cut_cause :
    (cause : Cause) (count first end : ℕ) (failure : Option Failure) (before now had : Bool) → FailsAs cause count before now
    → (before ≡ true → had ≡ false → is_some failure ≡ true) → now ≡ true → had ≡ false
    → is_some (failure_behind cause first end failure) ≡ true
cut_cause FileSystem count first end failure before now had fails some dead lived = refl
cut_cause Memory count first end failure before now had fails some dead lived = absurd (cc)
cut_cause Failed count first end failure before now had fails some dead lived = some fails.1 lived
cut_cause TooLong count first end failure before now had fails some dead lived = some (sym fails.1 ∙ dead) lived

pub cut_last :
    (cause : Cause) (rounds : List Round) (requests : List (ℕ × Request)) (refused : List ℕ) (cut : List Round)
    (failure : Option Failure) → AreCutOff requests refused cut → is_last failure rounds ≡ true
    → is_last (failure_behind cause (length rounds) (length (rounds ++ cut)) failure) (rounds ++ cut) ≡ true
cut_last FileSystem rounds requests refused cut failure are last = last_here rounds requests refused cut are
cut_last Memory rounds requests refused cut failure are last = last-append failure rounds cut last are.cut
cut_last Failed rounds requests refused cut failure are last = last-append failure rounds cut last are.cut
cut_last TooLong rounds requests refused cut failure are last = last-append failure rounds cut last are.cut

-- What is told of a round's length is so.
