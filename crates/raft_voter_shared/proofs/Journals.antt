-- Records are added to a journal.
use Rattle.std.proofs.Common.{◌≡◌, ◌≤◌, ◌<◌, ℕ, ◌+◌, ◌-◌, true, List, [], ◌∷◌, ◌++◌, length, length-append, length-drop, map, take, drop, Option, None, Some, refl, sym, ap, ◌∙◌, arith}
use Rattle.std.proofs.Math.Seq.{drop-append_seam, take-append_seam, take-length}
use Rattle.std.specs.Cmp.Derive.{both_true}
use Rattle.std.proofs.lemmas.List.{drop-append-le, map-append, take-append-le}
use Rattle.std.proofs.lemmas.List.Folds.{list_all-append}
use Rattle.std.proofs.lemmas.Bool.{and_parts, le-leb, leb-true, lt-ltb, ltb-true}
use Rattle.std.proofs.lemmas.Bool.Decides.{nat_tests}
use Rattle.raft_voter_messages.specs.declared.reply.Reply.{Reply}
use Rattle.raft_voter_messages.specs.declared.request.Request.{Request}
use Rattle.raft_voter_messages.specs.declared.round.Outcome.TheVariants.{Answered}
use Rattle.raft_voter_messages.specs.declared.round.Round.{Round}
use Rattle.raft_voter.specs.Rounds.{World, after, after_one, are_rising, replies_from, taken_from}
use Rattle.raft_voter.specs.Service.{Answers, refused_from, uncut}
use Rattle.raft_voter_rounds.specs.Journal.{IsLegal, behind_outcome, owed, owed_by, reached, said}
use Rattle.raft_voter_rounds.specs.Noting.{answered}
use Rattle.raft_voter_shared.specs.declared.failure.Failure.{Failure}
use Rattle.raft_voter_shared.specs.declared.failure.Failure.TheVariants.{InRounds, InPurge}
use Rattle.raft_voter_shared.specs.Standing.{are_cut, between, cut_together, is_cut, is_last, refused_of, requests_of, standing}

-- the voters behind more records
pub reached-append :
    (W : World) (rounds more : List Round) → reached W (rounds ++ more) ≡ reached (reached W rounds) more
reached-append W [] more = refl
reached-append W (x ∷ xs) more = reached-append (behind_outcome x.outcome W x) xs more

-- what voters owe more records
owed-append :
    (W : World) (rounds more : List Round) → owed W (rounds ++ more) ≡ owed W rounds ++ owed (reached W rounds) more
owed-append W [] more = refl
owed-append W (x ∷ xs) more = ap (λ os. owed_by x.outcome W x ∷ os) (owed-append (behind_outcome x.outcome W x) xs more)

-- a legal history goes on with one that begins behind it
pub legal-append :
    (W : World) (rounds more : List Round) → IsLegal W rounds → IsLegal (reached W rounds) more → IsLegal W (rounds ++ more)
legal-append W rounds more legal goes_on =
    map-append said rounds more ∙ ap (λ xs. xs ++ map said more) legal
    ∙ ap (λ os. owed W rounds ++ os) goes_on ∙ sym (owed-append W rounds more)

-- a record that says what is owed, and a history that begins behind it
pub legal_first :
    (W : World) (r : Round) (rounds : List Round) → said r ≡ owed_by r.outcome W r
    → IsLegal (behind_outcome r.outcome W r) rounds → IsLegal W (r ∷ rounds)
legal_first W r rounds says legal = ap (λ o. o ∷ map said rounds) says ∙ ap (λ os. owed_by r.outcome W r ∷ os) legal

-- there is a reply to each request
length-replies_from :
    (place : ℕ) (refused : List ℕ) (W : World) (qs : List (ℕ × Request))
    → length (replies_from place refused W qs) ≡ length qs
length-replies_from place refused W [] = refl
length-replies_from place refused W (q ∷ qs) =
    grind (arith, nat_tests, length-replies_from (place + 1) refused W qs, length-replies_from (place + 1) refused (after_one W q) qs)

-- an answered round's record has the refused places of its replies
pub answered_places :
    (W X : World) (requests : List (ℕ × Request)) (replies : List Reply) → Answers W requests replies X
    → refused_from 0 (take (length requests) replies) ≡ refused_from 0 replies
answered_places W X requests replies a =
    let many : length requests ≡ length replies =
    sym (length-replies_from 0 (refused_from 0 replies) W requests) ∙ sym (ap length a.told) in
    ap (λ n. refused_from 0 (take n replies)) many ∙ ap (refused_from 0) (take-length replies)

-- it says what is owed
pub answered_says :
    (W X : World) (requests : List (ℕ × Request)) (replies : List Reply) → Answers W requests replies X
    → said (answered requests replies) ≡ owed_by (Answered replies) W (answered requests replies)
answered_says W X requests replies a =
    let places = answered_places W X requests replies a in
    ap (λ ps. (are_rising 0 (length requests) ps, Some replies)) places
    ∙ ap (λ b. (b, Some replies)) a.rising
    ∙ ap (λ rs. (true, Some rs)) a.told
    ∙ ap (λ ps. (true, Some (replies_from 0 ps W requests))) (sym places)

-- the voters behind it are those that took it
pub answered_reaches :
    (W X : World) (requests : List (ℕ × Request)) (replies : List Reply) → Answers W requests replies X
    → X ≡ behind_outcome (Answered replies) W (answered requests replies)
answered_reaches W X requests replies a =
    a.taken ∙ ap (λ ps. after W (taken_from 0 (length requests) ps requests)) (sym (answered_places W X requests replies a))

-- Rounds that were cut off together.

-- these records are of rounds that were cut off together, with these requests and refused positions; no voters took them
pub record AreCutOff (requests : List (ℕ × Request)) (refused : List ℕ) (cuts : List Round) : Type 0 where
  pub some : 0 < length cuts
  pub cut : are_cut cuts ≡ true
  pub asked : requests_of cuts ≡ requests
  pub places : refused_of 0 cuts ≡ refused
  pub legal : (W : World) → IsLegal W cuts
  pub stays : (W : World) → reached W cuts ≡ W

-- where a store failed in rounds, what the journal has of them
pub last_facts :
    (first end : ℕ) (rounds : List Round) → is_last (Some (InRounds first end)) rounds ≡ true
    → (first < end) × (end ≤ length rounds) × (are_cut (drop first rounds) ≡ true)
last_facts first end rounds last =
    let both = and_parts _ (are_cut (drop first rounds)) last in
    let ends = and_parts _ _ both.0 in
    (ltb-true first end ends.0, leb-true end (length rounds) ends.1, both.1)

made_last :
    (first end : ℕ) (rounds : List Round) → first < end → end ≤ length rounds → are_cut (drop first rounds) ≡ true
    → is_last (Some (InRounds first end)) rounds ≡ true
made_last first end rounds some within cut =
    both_true (both_true (lt-ltb first end some) (le-leb end (length rounds) within)) cut

are_cut-append : (rounds more : List Round) → are_cut rounds ≡ true → are_cut more ≡ true → are_cut (rounds ++ more) ≡ true
are_cut-append rounds more all cut =
    list_all-append (λ (round : Round). is_cut round.outcome) rounds more ∙ both_true all cut

-- where a store failed in rounds that were cut off, it is those still behind others that were
pub last-append :
    (failure : Option Failure) (rounds more : List Round) → is_last failure rounds ≡ true
    → are_cut more ≡ true → is_last failure (rounds ++ more) ≡ true
last-append (Some (InRounds first end)) rounds more last cut =
    let (some, within, all) = last_facts first end rounds last in
    made_last first end (rounds ++ more) some (omega (arith, within, length-append rounds more))
    (ap are_cut (drop-append-le first rounds more (omega (arith, some, within))) ∙ are_cut-append (drop first rounds) more all cut)
last-append (Some InPurge) rounds more last cut = refl
last-append None rounds more last cut = refl

pub standing-append :
    (W : World) (failure : Option Failure) (rounds : List Round) (requests : List (ℕ × Request)) (refused : List ℕ)
    (cuts : List Round) → AreCutOff requests refused cuts → is_last failure rounds ≡ true
    → standing W (rounds ++ cuts) failure ≡ standing W rounds failure
standing-append W (Some (InRounds first end)) rounds requests refused cuts are last =
    let (some, within, all) = last_facts first end rounds last in
    let inside : first ≤ length rounds = omega (arith, some, within) in
    let fits : end - first ≤ length (drop first rounds) = omega (arith, length-drop first rounds, within) in
    let same : between first end (rounds ++ cuts) ≡ between first end rounds =
    ap (take (end - first)) (drop-append-le first rounds cuts inside) ∙ take-append-le (end - first) (drop first rounds) cuts fits in
    ap (λ (rs : List Round). cut_together (reached W rs) (between first end (rounds ++ cuts))) (take-append-le first rounds cuts inside)
    ∙ ap (cut_together (reached W (take first rounds))) same
standing-append W (Some InPurge) rounds requests refused cuts are last =
    ap uncut (reached-append W rounds cuts ∙ are.stays (reached W rounds))
standing-append W None rounds requests refused cuts are last =
    ap uncut (reached-append W rounds cuts ∙ are.stays (reached W rounds))

-- a store that fails in the last rounds stands behind those
pub last_here :
    (rounds : List Round) (requests : List (ℕ × Request)) (refused : List ℕ) (cuts : List Round)
    → AreCutOff requests refused cuts → is_last (Some (InRounds (length rounds) (length (rounds ++ cuts)))) (rounds ++ cuts) ≡ true
last_here rounds requests refused cuts are =
    made_last (length rounds) (length (rounds ++ cuts)) (rounds ++ cuts) (omega (arith, are.some, length-append rounds cuts)) (omega arith)
    (ap are_cut (drop-append_seam rounds cuts) ∙ are.cut)

pub standing_here :
    (W : World) (rounds : List Round) (requests : List (ℕ × Request)) (refused : List ℕ) (cuts : List Round)
    → AreCutOff requests refused cuts
    → standing W (rounds ++ cuts) (Some (InRounds (length rounds) (length (rounds ++ cuts))))
    ≡ record { before = reached W rounds; requests = requests; refused = refused }
standing_here W rounds requests refused cuts are =
    let many : length (rounds ++ cuts) - length rounds ≡ length cuts = omega (arith, length-append rounds cuts) in
    let same : between (length rounds) (length (rounds ++ cuts)) (rounds ++ cuts) ≡ cuts =
    ap (take (length (rounds ++ cuts) - length rounds)) (drop-append_seam rounds cuts)
    ∙ ap (λ (n : ℕ). take n cuts) many ∙ take-length cuts in
    ap (λ (rs : List Round). cut_together (reached W rs) (between (length rounds) (length (rounds ++ cuts)) (rounds ++ cuts)))
    (take-append_seam rounds cuts)
    ∙ ap (cut_together (reached W rounds)) same
    ∙ ap (λ (qs : List (ℕ × Request)). record { before = reached W rounds; requests = qs; refused = refused_of 0 cuts }) are.asked
    ∙ ap (λ (ps : List ℕ). record { before = reached W rounds; requests = requests; refused = ps }) are.places
