-- Where rounds that were served together were taken up to a place of all their requests, each was taken up to a place of
-- its own.
use Rattle.std.proofs.Common.{◌≡◌, ◌≤◌, ◌<◌, ℕ, ◌+◌, ◌-◌, Bool, true, false, List, [], ◌∷◌, ◌++◌, length, map, min, not, refl, sym, ap, ◌∙◌, inl, inr, arith}
use Rattle.std.specs.Prelude.{◌==◌, ◌&&◌, ◌||◌, nat_le, nat_lt, if◌then◌else◌}
use Rattle.std.proofs.lemmas.Bool.{and_parts, cases_lt, le-ltb, lt-ltb, ltb-true}
use Rattle.std.proofs.lemmas.Bool.Decides.{nat_tests}
use Rattle.std.proofs.lemmas.List.Folds.{list_any-append}
use Rattle.raft_voter_messages.specs.declared.request.Request.{Request}
use Rattle.raft_voter_messages.specs.declared.round.Round.{Round}
use Rattle.raft_voter.specs.Rounds.{are_rising, is_among, taken_from}
use Rattle.raft_voter_shared.specs.Standing.{refused_of, requests_of}

-- Requests behind others.

if_append : (b : Bool) (q : ℕ × Request) (xs ys : List (ℕ × Request))
    → (if b then q ∷ (xs ++ ys) else (xs ++ ys)) ≡ (if b then q ∷ xs else xs) ++ ys
if_append true q xs ys = refl
if_append false q xs ys = refl

taken-append : (k cut : ℕ) (ps : List ℕ) (qs rs : List (ℕ × Request))
    → taken_from k cut ps (qs ++ rs) ≡ taken_from k cut ps qs ++ taken_from (k + length qs) cut ps rs
taken-append k cut ps [] rs = let none : k ≡ k + 0 = omega arith in ap (λ (j : ℕ). taken_from j cut ps rs) none
taken-append k cut ps (q ∷ qs) rs =
    let test : Bool = nat_lt k cut && not (is_among ps k) in
    let next : k + 1 + length qs ≡ k + length (q ∷ qs) = omega arith in
    ap (λ (l : List (ℕ × Request)). if test then q ∷ l else l) (taken-append (k + 1) cut ps qs rs)
    ∙ if_append test q (taken_from (k + 1) cut ps qs) (taken_from (k + 1 + length qs) cut ps rs)
    ∙ ap (λ (j : ℕ). taken_from k cut ps (q ∷ qs) ++ taken_from j cut ps rs) next

-- Other refused positions.

-- only those within the requests count
taken_agree : (k cut : ℕ) (ps rs : List ℕ) (qs : List (ℕ × Request))
    → ((j : ℕ) → k ≤ j → j < k + length qs → is_among ps j ≡ is_among rs j) → taken_from k cut ps qs ≡ taken_from k cut rs qs
taken_agree k cut ps rs [] agree = refl
taken_agree k cut ps rs (q ∷ qs) agree =
    let here : is_among ps k ≡ is_among rs k = agree k (omega arith) (omega arith) in
    let later = taken_agree (k + 1) cut ps rs qs (λ j above below. agree j (omega (arith, above)) (omega (arith, below))) in
    ap (λ (b : Bool). if nat_lt k cut && not b then q ∷ taken_from (k + 1) cut ps qs else taken_from (k + 1) cut ps qs) here
    ∙ ap (λ (l : List (ℕ × Request)). if nat_lt k cut && not (is_among rs k) then q ∷ l else l) later

-- positions that count from another place

lt_shift : (k j cut : ℕ) → nat_lt (k + j) cut ≡ nat_lt j (cut - k)
lt_shift k j cut = elim (cases_lt (k + j) cut) [
  | inl below ↦ lt-ltb (k + j) cut below ∙ sym (lt-ltb j (cut - k) (omega (arith, below)))
  | inr past ↦ le-ltb (k + j) cut past ∙ sym (le-ltb j (cut - k) (omega (arith, past)))
]

eq_shift : (k p j : ℕ) → ((k + p) == (k + j)) ≡ (p == j)
eq_shift k p j = grind (arith, nat_tests)

among_shift : (k j : ℕ) (ps : List ℕ) → is_among (map (λ p. k + p) ps) (k + j) ≡ is_among ps j
among_shift k j [] = refl
among_shift k j (p ∷ ps) =
    ap (λ (b : Bool). b || is_among (map (λ p. k + p) ps) (k + j)) (eq_shift k p j)
    ∙ ap (λ (b : Bool). (p == j) || b) (among_shift k j ps)

taken_shift : (k j cut : ℕ) (ps : List ℕ) (qs : List (ℕ × Request))
    → taken_from (k + j) cut (map (λ p. k + p) ps) qs ≡ taken_from j (cut - k) ps qs
taken_shift k j cut ps [] = refl
taken_shift k j cut ps (q ∷ qs) =
    let later : List (ℕ × Request) = taken_from (k + j + 1) cut (map (λ p. k + p) ps) qs in
    let next : k + j + 1 ≡ k + (j + 1) = omega arith in
    ap (λ (b : Bool). if b && not (is_among (map (λ p. k + p) ps) (k + j)) then q ∷ later else later) (lt_shift k j cut)
    ∙ ap (λ (b : Bool). if nat_lt j (cut - k) && not b then q ∷ later else later) (among_shift k j ps)
    ∙ ap (λ (l : List (ℕ × Request)). if nat_lt j (cut - k) && not (is_among ps j) then q ∷ l else l)
    (ap (λ (i : ℕ). taken_from i cut (map (λ p. k + p) ps) qs) next ∙ taken_shift k (j + 1) cut ps qs)

-- a cut behind all requests takes all
taken_whole : (k cut other : ℕ) (ps : List ℕ) (qs : List (ℕ × Request)) → k + length qs ≤ cut → k + length qs ≤ other
    → taken_from k cut ps qs ≡ taken_from k other ps qs
taken_whole k cut other ps [] one two = refl
taken_whole k cut other ps (q ∷ qs) one two =
    let later : List (ℕ × Request) = taken_from (k + 1) cut ps qs in
    let same : nat_lt k cut ≡ nat_lt k other = lt-ltb k cut (omega (arith, one)) ∙ sym (lt-ltb k other (omega (arith, two))) in
    ap (λ (b : Bool). if b && not (is_among ps k) then q ∷ later else later) same
    ∙ ap (λ (l : List (ℕ × Request)). if nat_lt k other && not (is_among ps k) then q ∷ l else l)
    (taken_whole (k + 1) cut other ps qs (omega (arith, one)) (omega (arith, two)))

taken_min : (cut : ℕ) (ps : List ℕ) (qs : List (ℕ × Request)) → taken_from 0 cut ps qs ≡ taken_from 0 (min cut (length qs)) ps qs
taken_min cut ps qs = elim (cases_lt cut (length qs)) [
  | inl below ↦ let same : cut ≡ min cut (length qs) = omega (arith, below) in ap (λ (c : ℕ). taken_from 0 c ps qs) same
  | inr past ↦ taken_whole 0 cut (min cut (length qs)) ps qs (omega (arith, past)) (omega (arith, past))
]

-- Positions of other rounds.

or_false : (b : Bool) → (b || false) ≡ b
or_false true = refl
or_false false = refl

eq_apart : (p j : ℕ) → j < p → (p == j) ≡ false
eq_apart p j below = grind (arith, nat_tests)

eq_past : (p j : ℕ) → p < j → (p == j) ≡ false
eq_past p j above = grind (arith, nat_tests)

map_apart : (k j : ℕ) (ps : List ℕ) → j < k → is_among (map (λ p. k + p) ps) j ≡ false
map_apart k j [] below = refl
map_apart k j (p ∷ ps) below =
    ap (λ (b : Bool). b || is_among (map (λ p. k + p) ps) j) (eq_apart (k + p) j (omega (arith, below))) ∙ map_apart k j ps below

-- those of later rounds are past
later_apart : (k j : ℕ) (rounds : List Round) → j < k → is_among (refused_of k rounds) j ≡ false
later_apart k j [] below = refl
later_apart k j (r ∷ rounds) below =
    list_any-append (λ (p : ℕ). p == j) (map (λ p. k + p) r.refused) (refused_of (k + length r.requests) rounds)
    ∙ ap (λ (b : Bool). b || is_among (refused_of (k + length r.requests) rounds) j) (map_apart k j r.refused below)
    ∙ later_apart (k + length r.requests) j rounds (omega (arith, below))

-- those of an earlier round are before
earlier_apart : (k j low n : ℕ) (ps : List ℕ) → are_rising low n ps ≡ true → k + n ≤ j → is_among (map (λ p. k + p) ps) j ≡ false
earlier_apart k j low n [] rise past = refl
earlier_apart k j low n (p ∷ ps) rise past =
    let both = and_parts (nat_le low p && nat_lt p n) (are_rising (p + 1) n ps) rise in
    let below : p < n = ltb-true p n (and_parts (nat_le low p) (nat_lt p n) both.0).1 in
    ap (λ (b : Bool). b || is_among (map (λ p. k + p) ps) j) (eq_past (k + p) j (omega (arith, below, past)))
    ∙ earlier_apart k j (p + 1) n ps both.1 past

-- The first of several rounds, and the others.

pub taken_parts : (k cut : ℕ) (r : Round) (rounds : List Round) → are_rising 0 (length r.requests) r.refused ≡ true
    → taken_from k cut (refused_of k (r ∷ rounds)) (requests_of (r ∷ rounds))
    ≡ taken_from 0 (min (cut - k) (length r.requests)) r.refused r.requests
    ++ taken_from (k + length r.requests) cut (refused_of (k + length r.requests) rounds) (requests_of rounds)
taken_parts k cut r rounds rise =
    let n : ℕ = length r.requests in
    let none : k ≡ k + 0 = omega arith in
    let own : List ℕ = map (λ p. k + p) r.refused in
    let others : List ℕ = refused_of (k + n) rounds in
    let rest : List (ℕ × Request) = requests_of rounds in
    let split = λ (j : ℕ). list_any-append (λ (p : ℕ). p == j) own others in
    let first : taken_from k cut (own ++ others) r.requests ≡ taken_from 0 (min (cut - k) n) r.refused r.requests =
    taken_agree k cut (own ++ others) own r.requests
    (λ j above below. split j ∙ ap (λ (b : Bool). is_among own j || b) (later_apart (k + n) j rounds below) ∙ or_false (is_among own j))
    ∙ ap (λ (j : ℕ). taken_from j cut own r.requests) none ∙ taken_shift k 0 cut r.refused r.requests ∙ taken_min (cut - k) r.refused r.requests in
    let later : taken_from (k + n) cut (own ++ others) rest ≡ taken_from (k + n) cut others rest =
    taken_agree (k + n) cut (own ++ others) others rest
    (λ j above below. split j ∙ ap (λ (b : Bool). b || is_among others j) (earlier_apart k j 0 n r.refused rise above)) in
    taken-append k cut (own ++ others) r.requests rest
    ∙ ap (λ (l : List (ℕ × Request)). l ++ taken_from (k + n) cut (own ++ others) rest) first
    ∙ ap (λ (l : List (ℕ × Request)). taken_from 0 (min (cut - k) n) r.refused r.requests ++ l) later
