-- Of rounds of which requests were turned down, the others are taken in turn.
use Rattle.std.proofs.Common.{◌≡◌, ◌∙◌, ℕ, ◌+◌, ◌<◌, ◌≤◌, ◌==◌, nat_lt, true, false, List, [], ◌∷◌, length, refl, sym, ap, subst, inl, inr, arith}
use Rattle.std.proofs.lemmas.Bool.{cases_Bool}
use Rattle.std.proofs.lemmas.Bool.Decides.{nat_tests}
use Rattle.raft_voter_messages.specs.declared.reply.Reply.{Reply}
use Rattle.raft_voter_messages.specs.declared.reply.Reply.TheVariants.{Refused}
use Rattle.raft_voter_messages.specs.declared.request.Request.{Request}
use Rattle.raft_voter_messages.specs.Ranges.{in_range}
use Rattle.raft_voter_outline.specs.Rules.{reply}
use Rattle.raft_voter.specs.Rounds.{World, after, after_one, is_among, replies_from, taken_from}
use Rattle.raft_voter.specs.Service.{Answers, IsOpenAt, Service, is_refused, out_of_range, refused_from}
use Rattle.raft_voter.proofs.Public.{replies_behind, taken_behind}
use Rattle.raft_voter_world.specs.LawsAlike.{AreServed, StoresAnswerTakenAsModels, TellsTaken, answers_in, taken_by}
use Rattle.raft_voter_world.proofs.InTurn.{in_turn, turns}

-- a place below is none of those that are refused from one on
refused_above : (low j : ℕ) (told : List Reply) → j < low → is_among (refused_from low told) j ≡ false
refused_above low j [] h = refl
refused_above low j (a ∷ told) h =
    let apart : (low == j) ≡ false = grind (arith, nat_tests) in
    let rest = refused_above (low + 1) j told (omega arith) in
    elim (cases_Bool (is_refused a)) [
      | inl was ↦ rw (was, apart) rest
      | inr lives ↦ rw lives rest
    ]

abbrev head_of : Reply → List Reply → Reply
head_of r [] = r
head_of r (s ∷ rs) = s

abbrev tail_of : List Reply → List Reply
tail_of [] = []
tail_of (r ∷ rs) = rs

-- what wasn't refused was told and taken in turn, and is in range
record TakesRest (place n : ℕ) (W : World) (qs : List (ℕ × Request)) (told : List Reply) : Type 0 where
  pub answers : answers_in told ≡ in_turn W (taken_by qs told)
  pub taken : taken_from place n (refused_from place told) qs ≡ taken_by qs told
  pub fits : (k : ℕ) → out_of_range k (taken_by qs told) ≡ []

-- a request that wasn't refused is in range
told_fits : (W : World) (q : ℕ × Request) (a : Reply) → is_refused a ≡ false → a ≡ reply (W q.0) q.1 → in_range q.1 ≡ true
told_fits W q a lives is = elim (cases_Bool (in_range q.1)) [
  | inl fits ↦ fits
  | inr far ↦
      let said : reply (W q.0) q.1 ≡ Refused = rw far refl in
      absurd (let was : is_refused a ≡ true = ap is_refused (is ∙ said) in cc)
]

rest_of : (place n : ℕ) (W : World) (qs : List (ℕ × Request)) (told : List Reply) → told ≡ replies_from place (refused_from place told) W qs
    → place + length qs ≤ n → TakesRest place n W qs told
rest_of place n W [] [] e h = record { answers = refl; taken = refl; fits = λ k. refl }
rest_of place n W [] (a ∷ told) e h = absurd (cc)
rest_of place n W (q ∷ qs) [] e h = absurd (cc)
rest_of place n W (q ∷ qs) (a ∷ told) e h =
    let inside : nat_lt place n ≡ true = grind (arith, nat_tests) in
    let own : (place == place) ≡ true = grind (arith, nat_tests) in
    let R : List ℕ = refused_from (place + 1) told in
    elim (cases_Bool (is_refused a)) [
      | inl was ↦
          let both : a ∷ told ≡ Refused ∷ replies_from (place + 1) (place ∷ R) W qs = rw (was, own) at e in
          let rest = rest_of (place + 1) n W qs told (ap tail_of both ∙ replies_behind qs place (place + 1) R W (omega arith)) (omega arith) in
          record {
            answers = rw was rest.answers;
            taken = rw (was, own, inside) (taken_behind qs place (place + 1) n R (omega arith) ∙ rest.taken);
            fits = λ k. rw was (rest.fits k);
          }
      | inr lives ↦
          let apart : is_among R place ≡ false = refused_above (place + 1) place told (omega arith) in
          let both : a ∷ told ≡ reply (W q.0) q.1 ∷ replies_from (place + 1) R (after_one W q) qs = rw (lives, apart) at e in
          let rest = rest_of (place + 1) n (after_one W q) qs told (ap tail_of both) (omega arith) in
          let fits = told_fits W q a lives (ap (head_of a) both) in
          record {
            answers = rw lives (ap (λ (r : Reply). r ∷ answers_in told) (ap (head_of a) both) ∙ ap (λ (rs : List Reply). reply (W q.0) q.1 ∷ rs) rest.answers);
            taken = rw (lives, apart, inside) (ap (λ (l : List (ℕ × Request)). q ∷ l) rest.taken);
            fits = λ k. rw (lives, fits) (rest.fits (k + 1));
          }
    ]

-- of one round a model that took what a store took told the same, and has the same voters
one_rest : (W X Y : World) (requests : List (ℕ × Request)) (heard told : List Reply) → Answers W requests heard X
    → Answers W (taken_by requests heard) told Y → refused_from 0 told ≡ out_of_range 0 (taken_by requests heard)
    → (told ≡ answers_in heard) × (X ≡ Y)
one_rest W X Y requests heard told a b only =
    let rest = rest_of 0 (length requests) W requests heard a.told (omega arith) in
    let asked = taken_by requests heard in
    let all = turns 0 (length asked) (refused_from 0 told) W asked (λ j h. ap (λ (ps : List ℕ). is_among ps j) only) (omega arith) in (
      b.told ∙ all.0 ∙ sym rest.answers,
      a.taken ∙ ap (after W) rest.taken ∙ sym all.1 ∙ sym b.taken,
    )

pub stores_answer_taken_as_models : {S T : Type 0} (model : Service S) (v : Service T) → StoresAnswerTakenAsModels model v
stores_answer_taken_as_models model v only W [] told [] old new first last here heard at served = taken_none told served
  where
    taken_none : (told : List (List Reply)) → AreServed model [] told old new → TellsTaken model v told [] new last
    taken_none [] served = record {
      same = refl;
      voters = W;
      first = subst (λ s. IsOpenAt model s W) (sym served) at;
      second = subst (λ t. IsOpenAt v t W) (sym heard) here;
    }
    taken_none (t ∷ told) served = absurd served
stores_answer_taken_as_models model v only W [] told (h ∷ heard) old new first last here answers at served = absurd answers
stores_answer_taken_as_models model v only W (r ∷ rounds) told [] old new first last here answers at served = absurd answers
stores_answer_taken_as_models model v only W (r ∷ rounds) [] (h ∷ heard) old new first last here answers at served = absurd served
stores_answer_taken_as_models model v only W (r ∷ rounds) (t ∷ told) (h ∷ heard) old new first last here answers at served =
    let theirs = answers.1 W here in
    let mine = served.1.answers W at in
    let refused = only old served.0 (taken_by r h) (refused_from 0 t) served.1.alive.1 served.1.may_refuse in
    let both = one_rest W theirs.0 mine.0 r h t theirs.1 mine.1 refused in
    let there = subst (λ (V : World). IsOpenAt v answers.0 V) both.1 theirs.2 in
    let rest = stores_answer_taken_as_models model v only mine.0 rounds told heard served.0 new answers.0 last there answers.2 mine.2 served.2 in
    record {
      same = ap (λ (x : List Reply). x ∷ told) both.0 ∙ ap (λ (xs : List (List Reply)). answers_in h ∷ xs) rest.same;
      voters = rest.voters;
      first = rest.first;
      second = rest.second;
    }
