-- Refused places, from the replies.
use Rattle.std.proofs.Common.{◌≡◌, ◌∙◌, ℕ, zero, suc, ◌+◌, ◌<◌, ◌≤◌, nat_lt, nat_le, not, true, false, List, [], ◌∷◌, ◌++◌, length, take, slice_get, Some, if◌then◌else◌, refl, sym, ap, inl, inr, arith, take_all, length-append}
use Rattle.std.proofs.lemmas.Bool.{cases_Bool}
use Rattle.std.proofs.lemmas.Bool.Decides.{nat_tests}
use Rattle.raft_log_model_laws.proofs.Public.{if_false, if_true}
use Rattle.raft_voter_messages.specs.declared.reply.Reply.{Reply}
use Rattle.raft_voter_messages.specs.declared.reply.Reply.TheVariants.{Refused, Retired}
use Rattle.raft_voter_messages.specs.declared.request.Request.{Request}
use Rattle.raft_voter_outline.specs.Rules.{reply}
use Rattle.raft_voter_outline.proofs.Public.{by_test}
use Rattle.raft_voter.specs.Rounds.{World, after, after_one, are_rising, is_among, replies_from, taken_from}
use Rattle.raft_voter.specs.Service.{is_refused, refused_from}
use Rattle.raft_voter.proofs.Public.{among_before, replies_behind, taken_behind, taken_none}
use Rattle.raft_voter_durability_laws.specs.Rounds.{AreTold, took}
use Rattle.raft_voter_durability_laws.specs.Laws.{PassedVotersTookFirst, ToldRoundsAreAnswered}
use Rattle.raft_voter_durability_laws.proofs.Refusing.{named_refused}
use Rattle.raft_voter_durability_laws.proofs.Told.{Requests, after-append, told_within, took_none, took_served}

pub rising : (low k high : ℕ) (told : List Reply) → low ≤ k → k + length told ≤ high → are_rising low high (refused_from k told) ≡ true
rising low k high [] a b = refl
rising low k high (r ∷ told) a b =
    by_test (λ ps. are_rising low high ps ≡ true) (is_refused r) (k ∷ refused_from (k + 1) told) (refused_from (k + 1) told)
    (λ _. let first : nat_le low k ≡ true = grind (arith, nat_tests) in let last : nat_lt k high ≡ true = grind (arith, nat_tests) in rw (first, last) (rising (k + 1) (k + 1) high told (omega arith) (omega arith)))
    (λ _. rising low (k + 1) high told (omega arith) (omega arith))

-- no place before the first reply's is refused
not_before : (k : ℕ) (told : List Reply) → is_among (refused_from (k + 1) told) k ≡ false
not_before k told = among_before (refused_from (k + 1) told) k (k + 1) (k + 1 + length told) (rising (k + 1) (k + 1) (k + 1 + length told) told (omega arith) (omega arith)) (omega arith)

own_place : (k : ℕ) (ps : List ℕ) → is_among (k ∷ ps) k ≡ true
own_place k ps = grind (arith, nat_tests)

-- the replies
told_from_places : (k : ℕ) (W : World) (qs : Requests) (told : List Reply) → AreTold W qs told → length told ≡ length qs
    → told ≡ replies_from k (refused_from k told) W qs
told_from_places k W [] [] h size = refl
told_from_places k W (q ∷ qs) [] h size = absurd (omega arith)
told_from_places k W [] (a ∷ told) h size = absurd h
told_from_places k W (q ∷ qs) (a ∷ told) h size = elim (cases_Bool (is_refused a)) [
  | inl is ↦
      let ps : List ℕ = refused_from (k + 1) told in
      let list : refused_from k (a ∷ told) ≡ k ∷ refused_from (k + 1) told = if_true (is_refused a) (k ∷ refused_from (k + 1) told) (refused_from (k + 1) told) is in
      let rest = told_from_places (k + 1) W qs told (rw is at h) (omega arith) in
      ap (λ x. x ∷ told) (named_refused a is)
      ∙ ap (λ l. Refused ∷ l) (rest ∙ sym (replies_behind qs k (k + 1) (refused_from (k + 1) told) W (omega arith)))
      ∙ sym (if_true (is_among (k ∷ refused_from (k + 1) told) k) (Refused ∷ replies_from (k + 1) (k ∷ refused_from (k + 1) told) W qs) (reply (W q.0) q.1 ∷ replies_from (k + 1) (k ∷ refused_from (k + 1) told) (after_one W q) qs) (own_place k (refused_from (k + 1) told)))
      ∙ ap (λ l. replies_from k l W (q ∷ qs)) (sym list)
  | inr not ↦
      let list : refused_from k (a ∷ told) ≡ refused_from (k + 1) told = if_false (is_refused a) (k ∷ refused_from (k + 1) told) (refused_from (k + 1) told) not in
      let parts = rw not at h in
      let rest = told_from_places (k + 1) (after_one W q) qs told parts.1 (omega arith) in
      ap (λ x. x ∷ told) parts.0
      ∙ ap (λ l. reply (W q.0) q.1 ∷ l) rest
      ∙ sym (if_false (is_among (refused_from (k + 1) told) k) (Refused ∷ replies_from (k + 1) (refused_from (k + 1) told) W qs) (reply (W q.0) q.1 ∷ replies_from (k + 1) (refused_from (k + 1) told) (after_one W q) qs) (not_before k told))
      ∙ ap (λ l. replies_from k l W (q ∷ qs)) (sym list)
]

-- what was taken below a place
taken_at : (k end : ℕ) (ps : List ℕ) (q : ℕ × Request) (qs : Requests) → k < end → is_among ps k ≡ false
    → taken_from k end ps (q ∷ qs) ≡ q ∷ taken_from (k + 1) end ps qs
taken_at k end ps q qs inside apart = grind (arith, nat_tests)

taken_past : (k end : ℕ) (ps : List ℕ) (q : ℕ × Request) (qs : Requests) → is_among ps k ≡ true
    → taken_from k end ps (q ∷ qs) ≡ taken_from (k + 1) end ps qs
taken_past k end ps q qs among = grind (arith, nat_tests)

took_from_places : (k cut : ℕ) (qs : Requests) (told : List Reply) → cut ≤ length told → length told ≤ length qs
    → took qs (take cut told) ≡ taken_from k (k + cut) (refused_from k told) qs
took_from_places k zero qs told low within =
    took_none qs ∙ sym (taken_none qs k (k + 0) (refused_from k told) (omega arith))
took_from_places k (suc cut) qs [] low within = absurd (omega arith)
took_from_places k (suc cut) [] (a ∷ told) low within = absurd (omega arith)
took_from_places k (suc cut) (q ∷ qs) (a ∷ told) low within = elim (cases_Bool (is_refused a)) [
  | inl is ↦
      let list : refused_from k (a ∷ told) ≡ k ∷ refused_from (k + 1) told = if_true (is_refused a) (k ∷ refused_from (k + 1) told) (refused_from (k + 1) told) is in
      let end : k + 1 + cut ≡ k + suc cut = omega arith in
      if_true (is_refused a) (took qs (take cut told)) (q ∷ took qs (take cut told)) is
      ∙ took_from_places (k + 1) cut qs told (omega arith) (omega arith)
      ∙ ap (λ n. taken_from (k + 1) n (refused_from (k + 1) told) qs) end
      ∙ sym (taken_behind qs k (k + 1) (k + suc cut) (refused_from (k + 1) told) (omega arith))
      ∙ sym (taken_past k (k + suc cut) (k ∷ refused_from (k + 1) told) q qs (own_place k (refused_from (k + 1) told)))
      ∙ ap (λ l. taken_from k (k + suc cut) l (q ∷ qs)) (sym list)
  | inr not ↦
      let list : refused_from k (a ∷ told) ≡ refused_from (k + 1) told = if_false (is_refused a) (k ∷ refused_from (k + 1) told) (refused_from (k + 1) told) not in
      let end : k + 1 + cut ≡ k + suc cut = omega arith in
      if_false (is_refused a) (took qs (take cut told)) (q ∷ took qs (take cut told)) not
      ∙ ap (λ l. q ∷ l) (took_from_places (k + 1) cut qs told (omega arith) (omega arith) ∙ ap (λ n. taken_from (k + 1) n (refused_from (k + 1) told) qs) end)
      ∙ sym (taken_at k (k + suc cut) (refused_from (k + 1) told) q qs (omega arith) (not_before k told))
      ∙ ap (λ l. taken_from k (k + suc cut) l (q ∷ qs)) (sym list)
]

-- from the first place on
took_below : (cut : ℕ) (qs : Requests) (told : List Reply) → cut ≤ length told → length told ≤ length qs
    → took qs (take cut told) ≡ taken_from 0 cut (refused_from 0 told) qs
took_below cut qs told low within =
    let none : 0 + cut ≡ cut = omega arith in
    took_from_places 0 cut qs told low within ∙ ap (λ n. taken_from 0 n (refused_from 0 told) qs) none

pub told_rounds_are_answered : ToldRoundsAreAnswered
told_rounds_are_answered V qs told h size = record {
  rising = rising 0 0 (length qs) told (omega arith) (omega (arith, size));
  told_is = told_from_places 0 V qs told h size;
  taken_is =
      ap (took qs) (sym (take_all (length told) told (omega arith))) ∙ took_below (length told) qs told (omega arith) (omega (arith, size))
      ∙ ap (λ n. taken_from 0 n (refused_from 0 told) qs) size;
}

-- one reply more that isn't `Refused` refuses no place
same_places : (k : ℕ) (told : List Reply) → refused_from k (told ++ Retired ∷ []) ≡ refused_from k told
same_places k [] = refl
same_places k (a ∷ told) =
    ap (λ l. if is_refused a then k ∷ l else l) (same_places (k + 1) told)

inside : (qs : Requests) (k : ℕ) (q : ℕ × Request) → slice_get qs k ≡ Some q → k < length qs
inside [] k q h = absurd (cc)
inside (r ∷ qs) zero q h = omega arith
inside (r ∷ qs) (suc k) q h = omega (arith, inside qs k q h)

pub passed_voters_took_first : PassedVotersTookFirst
passed_voters_took_first V qs told h X (inl passed) =
    let within = told_within V qs told h in
    record {
      place = passed.0;
      within = omega (arith, passed.1, within);
      reached = passed.2 ∙ ap (after V) (took_below passed.0 qs told passed.1 within);
    }
passed_voters_took_first V qs told h X (inr more) =
    let high = inside qs (length told) more.0 more.1 in
    let size : length (told ++ Retired ∷ []) ≡ length told + 1 = length-append told (Retired ∷ []) in
    let all : took qs (take (length told + 1) (told ++ Retired ∷ [])) ≡ took qs told ++ more.0 ∷ [] =
    ap (took qs) (take_all (length told + 1) (told ++ Retired ∷ []) (omega (arith, size))) ∙ took_served qs told more.0 Retired more.1 refl in
    record {
      place = length told + 1;
      within = omega (arith, high);
      reached =
          more.2 ∙ sym (after-append V (took qs told) (more.0 ∷ [])) ∙ ap (after V) (sym all)
          ∙ ap (after V) (took_below (length told + 1) qs (told ++ Retired ∷ []) (omega (arith, size)) (omega (arith, size, high)))
          ∙ ap (λ l. after V (taken_from 0 (length told + 1) l qs)) (same_places 0 told);
    }
