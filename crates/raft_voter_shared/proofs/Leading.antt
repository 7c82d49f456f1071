-- Journals lead from the voters that a store served to those that it left.
use Rattle.std.proofs.Common.{◌≡◌, ◌≤◌, ℕ, ◌+◌, ◌-◌, true, List, [], ◌∷◌, ◌++◌, length, min, take, drop, map, Option, None, Some, unwrap_or, refl, sym, ap, subst, ◌∙◌, arith}
use Rattle.std.proofs.Math.Logic.{∥∥₁_map}
use Rattle.std.proofs.lemmas.Bool.{and_parts, false≢true}
use Rattle.std.proofs.lemmas.List.{drop-drop, take-append-drop}
use Rattle.std.proofs.lemmas.List.Folds.{list_all-append}
use Rattle.std.specs.List.{list_all}
use Rattle.raft_voter_messages.specs.declared.request.Request.{Request}
use Rattle.raft_voter_messages.specs.declared.round.Outcome.{Outcome}
use Rattle.raft_voter_messages.specs.declared.round.Outcome.TheVariants.{Answered, Cut}
use Rattle.raft_voter_messages.specs.declared.round.Round.{Round}
use Rattle.raft_voter.specs.Rounds.{Leads, World, after, are_rising, fresh_world, taken_from}
use Rattle.raft_voter.specs.Service.{Files, Service}
use Rattle.raft_voter.proofs.Public.{rounds_join, taken_none}
use Rattle.raft_voter_rounds.specs.Journal.{IsLegal, behind_outcome, owed_by, reached, said}
use Rattle.raft_voter_shared.specs.declared.failure.Failure.{Failure}
use Rattle.raft_voter_shared.specs.declared.failure.Failure.TheVariants.{InRounds, InPurge}
use Rattle.raft_voter_shared.specs.Openings.{OpeningsAreExplained, OpeningsGoOn, OpeningsLead, TookUpTo, all_cuts, all_rounds, cuts_at, own_cut, spread, untaken}
use Rattle.raft_voter_shared.specs.Standing.{are_cut, between, is_cut, is_last, refused_of, requests_of, standing}
use Rattle.raft_voter_shared.proofs.Journals.{last_facts}
use Rattle.raft_voter_shared.proofs.Splitting.{after-append}
use Rattle.raft_voter_shared.proofs.Spreading.{taken_parts}

abbrev round_of : List (ℕ × Request) → List ℕ → Outcome → Round
round_of requests refused outcome = record { requests = requests; refused = refused; outcome = outcome }

-- One record.

record_leads :
    (o : Outcome) (W : World) (requests : List (ℕ × Request)) (refused : List ℕ)
    → said (round_of requests refused o) ≡ owed_by o W (round_of requests refused o)
    → Leads W (round_of requests refused o ∷ []) (own_cut o 0) (behind_outcome o W (round_of requests refused o))
record_leads (Answered replies) W requests refused says =
    record { explained = ((ap (λ p. p.0) says, ap (λ p. unwrap_or p.1 []) says), refl); reached = refl }
record_leads Cut W requests refused says =
    record {
      explained = ((ap (λ p. p.0) says, omega arith), refl);
      reached = ap (after W) (taken_none requests 0 0 refused (omega arith));
    }

-- a record that was cut off is as good for any voters, up to any place
cut_leads :
    (o : Outcome) (W X : World) (requests : List (ℕ × Request)) (refused : List ℕ) (place : ℕ)
    → said (round_of requests refused o) ≡ owed_by o W (round_of requests refused o) → is_cut o ≡ true
    → place ≤ length requests
    → Leads X (round_of requests refused o ∷ []) (own_cut o place) (after X (taken_from 0 place refused requests))
    × (behind_outcome o W (round_of requests refused o) ≡ W)
cut_leads (Answered replies) W X requests refused place says cut within = absurd (false≢true cut)
cut_leads Cut W X requests refused place says cut within =
    (record { explained = ((ap (λ p. p.0) says, within), refl); reached = refl }, refl)

-- Several.

abbrev head_of : {A : Type 0} → A → List A → A
head_of a [] = a
head_of a (x ∷ xs) = x

abbrev tail_of : {A : Type 0} → List A → List A
tail_of [] = []
tail_of (x ∷ xs) = xs

-- what a legal history says of its first record, and of the others
first_says : (W : World) (r : Round) (rounds : List Round) → IsLegal W (r ∷ rounds) → said r ≡ owed_by r.outcome W r
first_says W r rounds legal = ap (head_of (said r)) legal

others_say :
    (W : World) (r : Round) (rounds : List Round) → IsLegal W (r ∷ rounds) → IsLegal (behind_outcome r.outcome W r) rounds
others_say W r rounds legal = ap tail_of legal

legal_leads : (W : World) (rounds : List Round) → IsLegal W rounds → Leads W rounds (untaken rounds) (reached W rounds)
legal_leads W [] legal = record { explained = refl; reached = refl }
legal_leads W (r ∷ rounds) legal =
    rounds_join W (behind_outcome r.outcome W r) (reached (behind_outcome r.outcome W r) rounds) (r ∷ []) rounds
    (own_cut r.outcome 0) (untaken rounds)
    (record_leads r.outcome W r.requests r.refused (first_says W r rounds legal))
    (legal_leads (behind_outcome r.outcome W r) rounds (others_say W r rounds legal))

-- a legal history parts anywhere
legal_parts : (W : World) (xs ys : List Round) → IsLegal W (xs ++ ys) → IsLegal W xs × IsLegal (reached W xs) ys
legal_parts W [] ys legal = (refl, legal)
legal_parts W (x ∷ xs) ys legal =
    let rest = legal_parts (behind_outcome x.outcome W x) xs ys (others_say W x (xs ++ ys) legal) in (
      ap (λ o. o ∷ map said xs) (first_says W x (xs ++ ys) legal)
          ∙ ap (λ os. owed_by x.outcome W x ∷ os) rest.0,
      rest.1,
    )

-- where all were cut off, and none was taken, they lead nowhere
none_lead :
    (W X : World) (rounds : List Round) → IsLegal W rounds → list_all (λ (r : Round). is_cut r.outcome) rounds ≡ true
    → Leads X rounds (untaken rounds) X
none_lead W X [] legal cut = record { explained = refl; reached = refl }
none_lead W X (r ∷ rounds) legal cut =
    let parts = and_parts (is_cut r.outcome) _ cut in
    let first = cut_leads r.outcome W X r.requests r.refused 0 (first_says W r rounds legal) parts.0 (omega arith) in
    let none : after X (taken_from 0 0 r.refused r.requests) ≡ X = ap (after X) (taken_none r.requests 0 0 r.refused (omega arith)) in
    rounds_join X X X (r ∷ []) rounds (own_cut r.outcome 0) (untaken rounds)
    (subst (λ (Y : World). Leads X (r ∷ []) (own_cut r.outcome 0) Y) none first.0)
    (none_lead (behind_outcome r.outcome W r) X rounds (others_say W r rounds legal) parts.1)

says_rising :
    (o : Outcome) (W : World) (requests : List (ℕ × Request)) (refused : List ℕ)
    → said (round_of requests refused o) ≡ owed_by o W (round_of requests refused o)
    → are_rising 0 (length requests) refused ≡ true
says_rising (Answered replies) W requests refused says = ap (λ p. p.0) says
says_rising Cut W requests refused says = ap (λ p. p.0) says

-- where all were cut off together, they lead to the voters that took all their requests up to a place
spread_leads :
    (k place : ℕ) (W V : World) (rounds : List Round) → IsLegal W rounds → are_cut rounds ≡ true
    → Leads V rounds (spread (place - k) rounds) (after V (taken_from k place (refused_of k rounds) (requests_of rounds)))
spread_leads k place W V [] legal cut = record { explained = refl; reached = refl }
spread_leads k place W V (r ∷ rounds) legal cut =
    let n : ℕ = length r.requests in
    let parts = and_parts (is_cut r.outcome) _ cut in
    let says = first_says W r rounds legal in
    let up_to : ℕ = min (place - k) n in
    let V' : World = after V (taken_from 0 up_to r.refused r.requests) in
    let first = cut_leads r.outcome W V r.requests r.refused up_to says parts.0 (omega arith) in
    let rest = spread_leads (k + n) place (behind_outcome r.outcome W r) V' rounds (others_say W r rounds legal) parts.1 in
    let left : place - (k + n) ≡ place - k - n = omega arith in
    let X : World = after V' (taken_from (k + n) place (refused_of (k + n) rounds) (requests_of rounds)) in
    let world : after V (taken_from k place (refused_of k (r ∷ rounds)) (requests_of (r ∷ rounds))) ≡ X =
    ap (after V) (taken_parts k place r rounds (says_rising r.outcome W r.requests r.refused says))
    ∙ after-append V (taken_from 0 up_to r.refused r.requests) (taken_from (k + n) place (refused_of (k + n) rounds) (requests_of rounds)) in
    subst (λ (Y : World). Leads V (r ∷ rounds) (spread (place - k) (r ∷ rounds)) Y) (sym world)
    (rounds_join V V' X (r ∷ []) rounds (own_cut r.outcome up_to) (spread (place - k - n) rounds) first.0
    (subst (λ (j : ℕ). Leads V' rounds (spread j rounds) X) left rest))

-- nothing was cut off, so nothing more was taken
stays : (W X : World) (place : ℕ) → TookUpTo (record { before = W; requests = []; refused = [] }) X place → X ≡ W
stays W X place took = took.1

-- a journal leads from the voters before it to those that stand behind it
journal_leads :
    (W X : World) (rounds : List Round) (failure : Option Failure) (place : ℕ) → IsLegal W rounds
    → is_last failure rounds ≡ true → TookUpTo (standing W rounds failure) X place
    → Leads W rounds (cuts_at rounds failure place) X
journal_leads W X rounds (Some (InRounds first end)) place legal last took =
    let (some, inside, cut) = last_facts first end rounds last in
    let before : List Round = take first rounds in
    let failed : List Round = between first end rounds in
    let later : List Round = drop end rounds in
    let V : World = reached W before in
    let whole : before ++ drop first rounds ≡ rounds = take-append-drop first rounds in
    let end_is : first + (end - first) ≡ end = omega (arith, some) in
    let rest_is : drop (end - first) (drop first rounds) ≡ later = drop-drop (end - first) first rounds ∙ ap (λ (n : ℕ). drop n rounds) end_is in
    let parted : failed ++ later ≡ drop first rounds = ap (λ (l : List Round). failed ++ l) (sym rest_is) ∙ take-append-drop (end - first) (drop first rounds) in
    let parts = legal_parts W before (drop first rounds) (subst (λ (rs : List Round). IsLegal W rs) (sym whole) legal) in
    let halves = legal_parts V failed later (subst (λ (rs : List Round). IsLegal V rs) (sym parted) parts.1) in
    let cuts = and_parts (are_cut failed) (are_cut later) (sym (list_all-append (λ (r : Round). is_cut r.outcome) failed later) ∙ ap are_cut parted ∙ cut) in
    let none : place - 0 ≡ place = omega arith in
    let spread_to : Leads V failed (spread place failed) X =
    subst (λ (Y : World). Leads V failed (spread place failed) Y) (sym took.1)
    (subst (λ (j : ℕ). Leads V failed (spread j failed) (after V (taken_from 0 place (refused_of 0 failed) (requests_of failed)))) none
    (spread_leads 0 place V V failed halves.0 cuts.0)) in
    let behind : Leads V (failed ++ later) (spread place failed ++ untaken later) X =
    rounds_join V X X failed later (spread place failed) (untaken later) spread_to
    (none_lead (reached V failed) X later halves.1 cuts.1) in
    subst (λ (rs : List Round). Leads W rs (untaken before ++ (spread place failed ++ untaken later)) X) whole
    (rounds_join W V X before (drop first rounds) (untaken before) (spread place failed ++ untaken later)
    (legal_leads W before parts.0)
    (subst (λ (rs : List Round). Leads V rs (spread place failed ++ untaken later) X) parted behind))
journal_leads W X rounds (Some InPurge) place legal last took =
    subst (λ (Y : World). Leads W rounds (untaken rounds) Y) (sym (stays (reached W rounds) X place took)) (legal_leads W rounds legal)
journal_leads W X rounds None place legal last took =
    subst (λ (Y : World). Leads W rounds (untaken rounds) Y) (sym (stays (reached W rounds) X place took)) (legal_leads W rounds legal)

pub openings_lead : OpeningsLead
openings_lead W X [] o = record { explained = refl; reached = o }
openings_lead W X (s ∷ ss) o =
    rounds_join W o.2.0 X s.journal (all_rounds ss) (cuts_at s.journal s.failure s.place) (all_cuts ss)
    (journal_leads W o.2.0 s.journal s.failure s.place o.0 o.1 o.2.1)
    (openings_lead o.2.0 X ss o.2.2)

pub openings_are_explained : OpeningsAreExplained
openings_are_explained X ss o = (openings_lead fresh_world X ss o).explained

pub openings_go_on : {S F : Type 0} (v : Service S) (f : Files S F) → OpeningsGoOn v f
openings_go_on v f old new files left cut was closes crashes spares finds chance =
    ∥∥₁_map was (λ stood. finds chance cut (crashes spares cut (closes cut stood)))
