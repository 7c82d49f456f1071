-- Replies that are told one after another, and what they tell was taken.
use Rattle.std.proofs.Common.{◌≡◌, ◌∙◌, ℕ, ◌≤◌, true, false, MatchBool, List, [], ◌∷◌, ◌++◌, length, slice_get, Some, refl, sym, ap, subst, inl, inr, arith, take_all, length-append}
use Rattle.std.proofs.lemmas.Bool.{cases_Bool}
use Rattle.std.proofs.lemmas.List.{take-append-le}
use Rattle.raft_log_model_laws.proofs.Public.{if_false, if_true}
use Rattle.raft_voter_messages.specs.declared.reply.Reply.{Reply}
use Rattle.raft_voter_messages.specs.declared.request.Request.{Request}
use Rattle.raft_voter_outline.specs.Rules.{reply}
use Rattle.raft_voter.specs.Rounds.{World, after, after_one}
use Rattle.raft_voter.specs.Service.{is_refused}
use Rattle.raft_voter_durability_laws.specs.Rounds.{AreTold, IsPassed, took}

abbrev pub Requests : Type 0
Requests = List (ℕ × Request)

-- What was taken.

pub after-append : (W : World) (xs ys : Requests) → after W (xs ++ ys) ≡ after (after W xs) ys
after-append W [] ys = refl
after-append W (x ∷ xs) ys = after-append (after_one W x) xs ys

pub took_none : (qs : Requests) → took qs [] ≡ []
took_none [] = refl
took_none (q ∷ qs) = refl

same_request : (q r : ℕ × Request) (qs : Requests) → slice_get (q ∷ qs) 0 ≡ Some r → q ≡ r
same_request q r qs h = cc

pub took_refused : (qs : Requests) (told : List Reply) (a : Reply) → is_refused a ≡ true → took qs (told ++ a ∷ []) ≡ took qs told
took_refused [] told a h = refl
took_refused (q ∷ qs) [] a h = if_true (is_refused a) (took qs []) (q ∷ took qs []) h ∙ took_none qs
took_refused (q ∷ qs) (b ∷ told) a h = elim (cases_Bool (is_refused b)) [
  | inl is ↦
      if_true (is_refused b) (took qs (told ++ a ∷ [])) (q ∷ took qs (told ++ a ∷ [])) is ∙ took_refused qs told a h
      ∙ sym (if_true (is_refused b) (took qs told) (q ∷ took qs told) is)
  | inr not ↦
      if_false (is_refused b) (took qs (told ++ a ∷ [])) (q ∷ took qs (told ++ a ∷ [])) not ∙ ap (λ l. q ∷ l) (took_refused qs told a h)
      ∙ sym (if_false (is_refused b) (took qs told) (q ∷ took qs told) not)
]

pub took_served : (qs : Requests) (told : List Reply) (q : ℕ × Request) (a : Reply) → slice_get qs (length told) ≡ Some q → is_refused a ≡ false
    → took qs (told ++ a ∷ []) ≡ took qs told ++ q ∷ []
took_served [] told q a at h = absurd (cc)
took_served (r ∷ qs) [] q a at h =
    if_false (is_refused a) (took qs []) (r ∷ took qs []) h ∙ ap (λ l. r ∷ l) (took_none qs) ∙ ap (λ x. x ∷ []) (same_request r q qs at)
took_served (r ∷ qs) (b ∷ told) q a at h = elim (cases_Bool (is_refused b)) [
  | inl is ↦
      if_true (is_refused b) (took qs (told ++ a ∷ [])) (r ∷ took qs (told ++ a ∷ [])) is ∙ took_served qs told q a at h
      ∙ ap (λ l. l ++ q ∷ []) (sym (if_true (is_refused b) (took qs told) (r ∷ took qs told) is))
  | inr not ↦
      if_false (is_refused b) (took qs (told ++ a ∷ [])) (r ∷ took qs (told ++ a ∷ [])) not ∙ ap (λ l. r ∷ l) (took_served qs told q a at h)
      ∙ ap (λ l. l ++ q ∷ []) (sym (if_false (is_refused b) (took qs told) (r ∷ took qs told) not))
]

-- What was told.

pub told_more : (W : World) (qs : Requests) (told : List Reply) (q : ℕ × Request) (a : Reply) → AreTold W qs told → slice_get qs (length told) ≡ Some q
    → MatchBool (is_refused a) (Unit {0}) (a ≡ reply (after W (took qs told) q.0) q.1) → AreTold W qs (told ++ a ∷ [])
told_more W [] told q a h at new = absurd (cc)
told_more W (r ∷ qs) [] q a h at new = elim (cases_Bool (is_refused a)) [
  | inl is ↦ rw is tt
  | inr not ↦
      let own : a ≡ reply (W q.0) q.1 = rw not at new in
      rw not (own ∙ ap (λ (x : ℕ × Request). reply (W x.0) x.1) (sym (same_request r q qs at)), tt)
]
told_more W (r ∷ qs) (b ∷ told) q a h at new = elim (cases_Bool (is_refused b)) [
  | inl is ↦
      let took_is : took (r ∷ qs) (b ∷ told) ≡ took qs told = if_true (is_refused b) (took qs told) (r ∷ took qs told) is in
      let claim = subst (λ (l : Requests). MatchBool (is_refused a) (Unit {0}) (a ≡ reply (after W l q.0) q.1)) took_is new in
      rw is (told_more W qs told q a (rw is at h) at claim)
  | inr not ↦
      let took_is : took (r ∷ qs) (b ∷ told) ≡ r ∷ took qs told = if_false (is_refused b) (took qs told) (r ∷ took qs told) not in
      let claim = subst (λ (l : Requests). MatchBool (is_refused a) (Unit {0}) (a ≡ reply (after W l q.0) q.1)) took_is new in
      let parts = rw not at h in
      rw not (parts.0, told_more (after_one W r) qs told q a parts.1 at claim)
]

pub told_within : (W : World) (qs : Requests) (told : List Reply) → AreTold W qs told → length told ≤ length qs
told_within W qs [] h = omega arith
told_within W [] (a ∷ told) h = absurd h
told_within W (q ∷ qs) (a ∷ told) h = elim (cases_Bool (is_refused a)) [
  | inl is ↦ let rest = told_within W qs told (rw is at h) in omega (arith, rest)
  | inr not ↦ let rest = told_within (after_one W q) qs told (rw not at h).1 in omega (arith, rest)
]

-- Voters on the way.

pub passed_all : (W : World) (qs : Requests) (told : List Reply) → IsPassed W qs told (after W (took qs told))
passed_all W qs told =
    (length told, omega arith, ap (λ l. after W (took qs l)) (sym (take_all (length told) told (omega arith))))

pub passed_more : (W : World) (qs : Requests) (told : List Reply) (a : Reply) (X : World) → IsPassed W qs told X → IsPassed W qs (told ++ a ∷ []) X
passed_more W qs told a X h = (
  h.0,
  omega (arith, h.1, length-append told (a ∷ [])),
  h.2 ∙ ap (λ l. after W (took qs l)) (sym (take-append-le h.0 told (a ∷ []) h.1)),
)
