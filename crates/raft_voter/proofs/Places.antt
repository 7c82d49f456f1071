use Rattle.std.proofs.Common.{◌≡◌, ℕ, suc, ◌+◌, ◌-◌, ◌<◌, ◌≤◌, ◌==◌, true, false, List, [], ◌∷◌, ◌++◌, length, length-drop, take, drop, length-take, slice_get, Some, refl, sym, ◌∙◌, ap, inl, inr, arith}
use Rattle.std.proofs.lemmas.Bool.Decides.{nat_tests}
use Rattle.std.proofs.lemmas.Bool.{cases_lt, eq-eqb, eqb-true}
use Rattle.std.proofs.lemmas.List.{append_assoc, drop_all, length-take-le, nil_from_length}
use Rattle.std.specs.Bool.{Decides}
use Rattle.raft_voter_messages.specs.declared.reply.Reply.{Reply}
use Rattle.raft_voter_messages.specs.declared.reply.Reply.TheVariants.{Refused}
use Rattle.raft_voter_messages.specs.declared.request.Request.{Request}
use Rattle.raft_voter_messages.specs.declared.round.Outcome.TheVariants.{Cut}
use Rattle.raft_voter_messages.specs.declared.round.Round.{Round}
use Rattle.raft_voter_outline.specs.Rules.{reply}
use Rattle.raft_voter.specs.Rounds.{World, after, after_one, after_round, are_rising, is_among, place_reached, replies_from, taken_from, TakesFirst}

-- rising places don't hold one from before their start
pub among_before :
    (ps : List ℕ) (k low high : ℕ) → are_rising low high ps ≡ true → k < low → is_among ps k ≡ false
among_before [] k low high rise before = refl
among_before (p ∷ ps) k low high rise before = grind (arith, nat_tests, among_before ps k (p + 1) high)

-- where rising places hold their start, it is the first of them
pub first_among :
    (ps : List ℕ) (k high : ℕ) → are_rising k high ps ≡ true → is_among ps k ≡ true → ps ≡ k ∷ drop 1 ps
first_among [] k high rise here = absurd (cc)
first_among (p ∷ ps) k high rise here = grind (arith, nat_tests, among_before ps k (p + 1) high)

-- from there on the others rise
pub rising_rest :
    (ps : List ℕ) (k high : ℕ) → are_rising k high (k ∷ ps) ≡ true → are_rising (k + 1) high ps ≡ true
rising_rest ps k high rise = grind (arith, nat_tests)

-- where they don't hold their start, they rise from the next on
pub rising_on :
    (ps : List ℕ) (k high : ℕ) → are_rising k high ps ≡ true → is_among ps k ≡ false → are_rising (k + 1) high ps ≡ true
rising_on [] k high rise apart = refl
rising_on (p ∷ ps) k high rise apart = grind (arith, nat_tests)

-- a place that lies behind says nothing about what comes
pub replies_behind :
    (qs : List (ℕ × Request)) (p k : ℕ) (ps : List ℕ) (W : World) → p < k
    → replies_from k (p ∷ ps) W qs ≡ replies_from k ps W qs
replies_behind [] p k ps W behind = refl
replies_behind (q ∷ qs) p k ps W behind =
    grind (arith, nat_tests, replies_behind qs p (k + 1) ps W, replies_behind qs p (k + 1) ps (after_one W q))

pub taken_behind :
    (qs : List (ℕ × Request)) (p k cut : ℕ) (ps : List ℕ) → p < k
    → taken_from k cut (p ∷ ps) qs ≡ taken_from k cut ps qs
taken_behind [] p k cut ps behind = refl
taken_behind (q ∷ qs) p k cut ps behind = grind (arith, nat_tests, taken_behind qs p (k + 1) cut ps)

-- from the cut on nothing is taken
pub taken_none :
    (qs : List (ℕ × Request)) (k cut : ℕ) (ps : List ℕ) → cut ≤ k → taken_from k cut ps qs ≡ []
taken_none [] k cut ps past = refl
taken_none (q ∷ qs) k cut ps past = grind (arith, nat_tests, taken_none qs (k + 1) cut ps)

abbrev no_requests : List (ℕ × Request)
no_requests = []

-- so the requests below the cut are all that counts
pub taken_front :
    (qs : List (ℕ × Request)) (k cut : ℕ) (ps : List ℕ)
    → taken_from k cut ps (take (cut - k) qs) ≡ taken_from k cut ps qs
taken_front [] k cut ps = ap (taken_from k cut ps) (nil_from_length _ (omega (arith, length-take (cut - k) no_requests)))
taken_front (q ∷ qs) k cut ps = elim (cases_lt k cut) [
  | inl below ↦
      let more : cut - k ≡ suc (cut - (k + 1)) = omega arith in
      rw more (grind (arith, nat_tests, taken_front qs (k + 1) cut ps))
  | inr past ↦
      let none : cut - k ≡ 0 = omega arith in
      rw none (grind (arith, nat_tests, taken_none (q ∷ qs) k cut ps))
]

-- whether rising places hold their start is whether it is the first of them
pub head_among :
    (ps : List ℕ) (k high p : ℕ) → are_rising k high ps ≡ true → slice_get ps 0 ≡ Some p → (p == k) ≡ is_among ps k
head_among [] k high p rise first = absurd (cc)
head_among (q ∷ ps) k high p rise first =
    let same : q ≡ p = cc in
    grind (arith, nat_tests, among_before ps k (q + 1) high)

-- what a refused place leaves of a round
pub replies_refused :
    (q : ℕ × Request) (qs : List (ℕ × Request)) (ps : List ℕ) (k high : ℕ) (W : World) → are_rising k high ps ≡ true
    → is_among ps k ≡ true → replies_from k ps W (q ∷ qs) ≡ Refused ∷ replies_from (k + 1) (drop 1 ps) W qs
replies_refused q qs ps k high W rise here =
    let first : ps ≡ k ∷ drop 1 ps = first_among ps k high rise here in
    rw here (ap (λ rest. Refused ∷ rest) (ap (λ l. replies_from (k + 1) l W qs) first ∙ replies_behind qs k (k + 1) (drop 1 ps) W (omega arith)))

pub taken_refused :
    (q : ℕ × Request) (qs : List (ℕ × Request)) (ps : List ℕ) (k high cut : ℕ) → are_rising k high ps ≡ true
    → is_among ps k ≡ true → taken_from k cut ps (q ∷ qs) ≡ taken_from (k + 1) cut (drop 1 ps) qs
taken_refused q qs ps k high cut rise here =
    let first : ps ≡ k ∷ drop 1 ps = first_among ps k high rise here in
    let behind = taken_behind qs k (k + 1) cut (drop 1 ps) (omega arith) in
    let same : taken_from (k + 1) cut ps qs ≡ taken_from (k + 1) cut (drop 1 ps) qs = ap (λ l. taken_from (k + 1) cut l qs) first ∙ behind in
    grind (arith, nat_tests)

pub rising_after :
    (ps : List ℕ) (k high : ℕ) → are_rising k high ps ≡ true → is_among ps k ≡ true → are_rising (k + 1) high (drop 1 ps) ≡ true
rising_after ps k high rise here =
    let first : ps ≡ k ∷ drop 1 ps = first_among ps k high rise here in
    rising_rest (drop 1 ps) k high (rw first at rise)

-- a loop over a round, past a refused place
pub replies_past_refused :
    (qs : List (ℕ × Request)) (i : ℕ) (q : ℕ × Request) (ps : List ℕ) (high : ℕ) (W : World) (told all : List Reply)
    → drop i qs ≡ q ∷ drop (i + 1) qs → are_rising i high ps ≡ true → is_among ps i ≡ true
    → told ++ replies_from i ps W (drop i qs) ≡ all
    → (told ++ Refused ∷ []) ++ replies_from (i + 1) (drop 1 ps) W (drop (i + 1) qs) ≡ all
replies_past_refused qs i q ps high W told all more rise here so_far =
    let rest = replies_from (i + 1) (drop 1 ps) W (drop (i + 1) qs) in
    append_assoc told (Refused ∷ []) rest
    ∙ ap (λ l. told ++ l) (sym (replies_refused q (drop (i + 1) qs) ps i high W rise here))
    ∙ ap (λ l. told ++ replies_from i ps W l) (sym more)
    ∙ so_far

pub taken_past_refused :
    (qs : List (ℕ × Request)) (i cut : ℕ) (q : ℕ × Request) (ps : List ℕ) (high : ℕ)
    → drop i qs ≡ q ∷ drop (i + 1) qs → are_rising i high ps ≡ true → is_among ps i ≡ true
    → taken_from (i + 1) cut (drop 1 ps) (drop (i + 1) qs) ≡ taken_from i cut ps (drop i qs)
taken_past_refused qs i cut q ps high more rise here =
    rw more (sym (taken_refused q (drop (i + 1) qs) ps i high cut rise here))

-- past a place that isn't
pub replies_past :
    (qs : List (ℕ × Request)) (i : ℕ) (q : ℕ × Request) (ps : List ℕ) (W : World) (told all : List Reply)
    → drop i qs ≡ q ∷ drop (i + 1) qs → is_among ps i ≡ false → told ++ replies_from i ps W (drop i qs) ≡ all
    → (told ++ reply (W q.0) q.1 ∷ []) ++ replies_from (i + 1) ps (after_one W q) (drop (i + 1) qs) ≡ all
replies_past qs i q ps W told all more apart so_far =
    let first : replies_from i ps W (q ∷ drop (i + 1) qs) ≡ reply (W q.0) q.1 ∷ replies_from (i + 1) ps (after_one W q) (drop (i + 1) qs) = rw apart refl in
    let rest = replies_from (i + 1) ps (after_one W q) (drop (i + 1) qs) in
    append_assoc told (reply (W q.0) q.1 ∷ []) rest
    ∙ ap (λ l. told ++ l) (sym first)
    ∙ ap (λ l. told ++ replies_from i ps W l) (sym more)
    ∙ so_far

pub taken_past :
    (qs : List (ℕ × Request)) (i cut : ℕ) (q : ℕ × Request) (ps : List ℕ) (W : World)
    → drop i qs ≡ q ∷ drop (i + 1) qs → is_among ps i ≡ false → i < cut
    → after (after_one W q) (taken_from (i + 1) cut ps (drop (i + 1) qs)) ≡ after W (taken_from i cut ps (drop i qs))
taken_past qs i cut q ps W more apart below =
    let first : taken_from i cut ps (q ∷ drop (i + 1) qs) ≡ q ∷ taken_from (i + 1) cut ps (drop (i + 1) qs) = grind (arith, nat_tests) in
    rw more (rw first refl)

-- the first of the cuts is the place that a round that was cut off reached
place_of_cut : (cuts : List ℕ) (cut size : ℕ) → slice_get cuts 0 ≡ Some cut → place_reached Cut size cuts ≡ cut
place_of_cut [] cut size first = absurd (cc)
place_of_cut (c ∷ cuts) cut size first = cc

-- the requests below the cut alone lead to the world after the round
pub cut_world :
    (r : Round) (cuts : List ℕ) (cut : ℕ) (W : World) → r.outcome ≡ Cut → slice_get cuts 0 ≡ Some cut → cut ≤ length r.requests
    → after W (taken_from 0 (length (take cut r.requests)) r.refused (take cut r.requests)) ≡ after_round W r cuts
cut_world r cuts cut W off first within =
    let size : length (take cut r.requests) ≡ cut = length-take-le cut r.requests within in
    let front : taken_from 0 cut r.refused (take cut r.requests) ≡ taken_from 0 cut r.refused r.requests =
    let whole : cut - 0 ≡ cut = omega arith in
    rw whole at (taken_front r.requests 0 cut r.refused) in
    rw size (rw front (rw off (rw (place_of_cut cuts cut (length r.requests) first) refl)))

-- no cut is left over where all were used
pub none_left : (cuts : List ℕ) (used : ℕ) → used ≤ length cuts → Decides (used == length cuts) (drop used cuts ≡ [])
none_left cuts used within = (
  λ all. drop_all used cuts (omega (arith, eqb-true used (length cuts) all)),
  λ none. eq-eqb used (length cuts) (omega (arith, length-drop used cuts, ap length none)),
)

-- where the loop stops at a place, the requests below it were taken
pub stopped_at :
    (W X : World) (qs left : List (ℕ × Request)) (refused ps : List ℕ) (place : ℕ) → place ≤ length qs
    → after X (taken_from place place ps left) ≡ after W (taken_from 0 place refused qs) → TakesFirst W qs refused X
stopped_at W X qs left refused ps place within so_far =
    record { place = place; within = within; reached = rw (taken_none left place place ps (omega arith)) at so_far }
