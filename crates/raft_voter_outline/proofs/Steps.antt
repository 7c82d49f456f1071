-- What a request makes of a voter, step by step.
use Rattle.std.proofs.Common.{◌≡◌, ℕ, suc, ◌+◌, ◌-◌, ◌≤◌, ◌<◌, ◌^◌, ◌==◌, ◌&&◌, List, [], ◌∷◌, length, nat_lt, nat_le, if◌then◌else◌, Bool, true, false, cond, Option, None, Some, refl, ap, ◌∙◌, inl, inr, arith}
use Rattle.std.specs.Prelude.{max, min, slice_get}
use Rattle.std.specs.List.{list_all}
use Rattle.std.specs.Option.{option_map_or}
use Rattle.std.proofs.Math.Nat.{le-max_left, le-max_right}
use Rattle.std.proofs.lemmas.Bool.{and_parts, cases_Bool, eq-eqb, eqb-true, leb-true, ltb-true, false≢true}
use Rattle.std.proofs.lemmas.Bool.Decides.{nat_tests}
use Rattle.std.proofs.lemmas.Option.{slice_get_within}
use Rattle.raft_voter_messages.specs.declared.request.Request.{Request}
use Rattle.raft_voter_messages.specs.declared.request.Request.TheVariants.{Vote, Append, Compact, Install, Read, Status, Retire}
use Rattle.raft_voter_messages.specs.Ranges.{fits, in_range}
use Rattle.raft_voter_outline.specs.State.{State, adopt_term, last_index}
use Rattle.raft_voter_outline.specs.Rules.{agrees_at, appended, can_compact, compacted, grants, installed, matching, merged, next, next_in_range}
use Rattle.raft_voter_outline.proofs.Indexes.{Pair, term_of}

-- a fact of both arms holds of a choice between them
pub by_test :
    {X : Type 0} (P : X → Type 0) (b : Bool) (x y : X) → (b ≡ true → P x) → (b ≡ false → P y) → P (cond b x y)
by_test P true x y f g = f refl
by_test P false x y f g = g refl

-- what holds of each thing that a request may make of a voter holds of what it makes
pub vote_next :
    (P : State → Type 0) (v : State) (t c i u : ℕ)
    → (grants v t c i u ≡ true → P (record (adopt_term v t) { vote = Some c })) → P (adopt_term v t)
    → P (next_in_range v (Vote t c i u))
vote_next P v t c i u granted denied =
    by_test P (grants v t c i u) (record (adopt_term v t) { vote = Some c }) (adopt_term v t) granted (λ h. denied)

pub append_next :
    (P : State → Type 0) (v : State) (t p u commit : ℕ) (es : List (ℕ × List ℕ)) → P v → P (appended (adopt_term v t) p commit es)
    → P (adopt_term v t) → P (next_in_range v (Append t p u commit es))
append_next P v t p u commit es stale matched adopted =
    by_test P (nat_lt t v.term) v (if agrees_at v p u then appended (adopt_term v t) p commit es else adopt_term v t) (λ h. stale)
    (λ h. by_test P (agrees_at v p u) (appended (adopt_term v t) p commit es) (adopt_term v t) (λ k. matched) (λ k. adopted))

pub compact_next : (P : State → Type 0) (v : State) (i : ℕ) → P v → P (compacted v i) → P (next_in_range v (Compact i))
compact_next P v i same moved = by_test P (can_compact v i) (compacted v i) v (λ h. moved) (λ h. same)

pub install_next :
    (P : State → Type 0) (v : State) (t i u : ℕ) → P v → P (adopt_term v t) → P (installed (adopt_term v t) i u)
    → P (next_in_range v (Install t i u))
install_next P v t i u stale adopted moved =
    by_test P (nat_lt t v.term) v (if nat_le i v.base_index then adopt_term v t else installed (adopt_term v t) i u) (λ h. stale)
    (λ h. by_test P (nat_le i v.base_index) (adopt_term v t) (installed (adopt_term v t) i u) (λ k. adopted) (λ k. moved))

-- a term that is taken over moves no entry
pub base-adopt_term : (v : State) (t : ℕ) → (adopt_term v t).base_index ≡ v.base_index
base-adopt_term v t =
    by_test (λ (w : State). w.base_index ≡ v.base_index) (nat_lt v.term t) (record v { term = t; vote = None }) v (λ h. refl) (λ h. refl)

pub log-adopt_term : (v : State) (t : ℕ) → (adopt_term v t).log ≡ v.log
log-adopt_term v t =
    by_test (λ (w : State). w.log ≡ v.log) (nat_lt v.term t) (record v { term = t; vote = None }) v (λ h. refl) (λ h. refl)

-- the log reaches up to the entry before those sent
pub some_there : (o : Option Pair) (u : ℕ) → option_map_or (λ t. t == u) (term_of o) false ≡ true → (e : Pair) × (o ≡ Some e)
some_there None u h = absurd (false≢true h)
some_there (Some e) u h = (e, refl)

pub reaches : (v : State) (p u : ℕ) → v.base_index ≤ p → agrees_at v p u ≡ true → p - v.base_index ≤ length v.log
reaches v p u above agrees = elim (cases_Bool (p == v.base_index)) [
  | inl base ↦ let same : p ≡ v.base_index = eqb-true p v.base_index base in omega (arith, same)
  | inr apart ↦
      let inside : nat_lt v.base_index p ≡ true = grind (arith, nat_tests) in
      let there = some_there (slice_get v.log (p - v.base_index - 1)) u (rw (apart, inside) at agrees) in
      omega (arith, slice_get_within v.log (p - v.base_index - 1) there.0 there.1)
]

-- what agrees isn't below the base
pub agrees_above : (v : State) (p u : ℕ) → agrees_at v p u ≡ true → nat_lt p v.base_index ≡ false
agrees_above v p u agrees = elim (cases_Bool (nat_lt p v.base_index)) [
  | inr above ↦ above
  | inl below ↦
      let less : p < v.base_index = ltb-true p v.base_index below in
      let apart : (p == v.base_index) ≡ false = grind (arith, nat_tests) in
      let outside : nat_lt v.base_index p ≡ false = grind (arith, nat_tests) in
      absurd (false≢true (rw (apart, outside) at agrees))
]

-- Merging.

pub matching-itself : (sent : List Pair) → matching sent sent ≡ length sent
matching-itself [] = refl
matching-itself (e ∷ sent) = rw (eq-eqb e.0 e.0 refl) (omega (arith, matching-itself sent))

-- an old entry that matches stays in front
pub merged-same :
    (o e : Pair) (old sent : List Pair) → (o.0 == e.0) ≡ true → merged (o ∷ old) (e ∷ sent) ≡ o ∷ merged old sent
merged-same o e old sent same =
    let m = matching old sent in
    let n = length sent in
    let one : 1 + m ≡ suc m = omega arith in
    elim (cases_Bool (m == n)) [
      | inl all ↦
          let up : (suc m == suc n) ≡ true = eq-eqb (suc m) (suc n) (ap suc (eqb-true m n all)) in
          rw (same, one, up, all) refl
      | inr more ↦
          let up : (suc m == suc n) ≡ false = grind (arith, nat_tests) in
          rw (same, one, up, more) refl
    ]

-- another entry brings all that was sent
pub merged-other :
    (o e : Pair) (old sent : List Pair) → (o.0 == e.0) ≡ false → merged (o ∷ old) (e ∷ sent) ≡ e ∷ sent
merged-other o e old sent other =
    let none : (0 == suc (length sent)) ≡ false = grind (arith, nat_tests) in
    rw (other, none) refl

pub merged-nothing : (e : Pair) (sent : List Pair) → merged [] (e ∷ sent) ≡ e ∷ sent
merged-nothing e sent = let none : (0 == suc (length sent)) ≡ false = grind (arith, nat_tests) in rw none refl

-- what was sent matches what it was merged into
pub matching-merged : (old sent : List Pair) → matching (merged old sent) sent ≡ length sent
matching-merged [] [] = refl
matching-merged [] (e ∷ sent) = ap (λ (l : List Pair). matching l (e ∷ sent)) (merged-nothing e sent) ∙ matching-itself (e ∷ sent)
matching-merged (o ∷ old) [] = refl
matching-merged (o ∷ old) (e ∷ sent) = elim (cases_Bool (o.0 == e.0)) [
  | inr other ↦ ap (λ (l : List Pair). matching l (e ∷ sent)) (merged-other o e old sent other) ∙ matching-itself (e ∷ sent)
  | inl same ↦
      let one : matching (o ∷ merged old sent) (e ∷ sent) ≡ 1 + matching (merged old sent) sent = rw same refl in
      ap (λ (l : List Pair). matching l (e ∷ sent)) (merged-same o e old sent same) ∙ one
      ∙ omega (arith, matching-merged old sent)
]

-- The base stays at or below the commit.

-- what is raised from a commit that was at least as high is above it
pub raised : (a b c : ℕ) → a ≤ b → a ≤ max b c
raised a b c le = let up : b ≤ max b c = le-max_left b c in omega (arith, up)

abbrev pub HasCommittedBase : State → Type 0
HasCommittedBase v = v.base_index ≤ v.commit

pub adopted : (v : State) (t : ℕ) → HasCommittedBase v → HasCommittedBase (adopt_term v t)
adopted v t h = by_test HasCommittedBase (nat_lt v.term t) (record v { term = t; vote = None }) v (λ k. h) (λ k. h)

pub base_next_in_range : (q : Request) (v : State) → HasCommittedBase v → HasCommittedBase (next_in_range v q)
base_next_in_range (Vote t c i u) v h = vote_next HasCommittedBase v t c i u (λ k. adopted v t h) (adopted v t h)
base_next_in_range (Append t p u commit es) v h =
    append_next HasCommittedBase v t p u commit es h
    (raised (adopt_term v t).base_index (adopt_term v t).commit (min commit (p + length es)) (adopted v t h)) (adopted v t h)
base_next_in_range (Compact i) v h =
    by_test HasCommittedBase (can_compact v i) (compacted v i) v
    (λ can. leb-true i v.commit (and_parts (nat_lt v.base_index i && nat_le i (last_index v)) (nat_le i v.commit) can).1) (λ cannot. h)
base_next_in_range (Install t i u) v h =
    install_next HasCommittedBase v t i u h (adopted v t h) (le-max_right (adopt_term v t).commit i)
base_next_in_range (Read a b) v h = h
base_next_in_range Status v h = h
base_next_in_range Retire v h = omega arith

pub base_next : (q : Request) (v : State) → HasCommittedBase v → HasCommittedBase (next v q)
base_next q v h = by_test HasCommittedBase (in_range q) (next_in_range v q) v (λ k. base_next_in_range q v h) (λ k. h)

-- The base stays in range.

base_small-adopt : (v : State) (t : ℕ) → v.base_index < 2 ^ 63 → (adopt_term v t).base_index < 2 ^ 63
base_small-adopt v t small = rw (base-adopt_term v t) small

pub base_small-next :
    (q : Request) (v : State) → in_range q ≡ true → v.base_index < 2 ^ 63 → (next_in_range v q).base_index < 2 ^ 63
base_small-next (Vote t c i u) v fit small =
    vote_next (λ (w : State). w.base_index < 2 ^ 63) v t c i u (λ h. base_small-adopt v t small) (base_small-adopt v t small)
base_small-next (Append t p u commit es) v fit small =
    append_next (λ (w : State). w.base_index < 2 ^ 63) v t p u commit es small (base_small-adopt v t small) (base_small-adopt v t small)
base_small-next (Compact i) v fit small =
    compact_next (λ (w : State). w.base_index < 2 ^ 63) v i small (ltb-true i (2 ^ 63) fit)
base_small-next (Install t i u) v fit small =
    let behind = (and_parts (fits t) (list_all fits (i ∷ u ∷ [])) fit).1 in
    let here = (and_parts (fits i) (list_all fits (u ∷ [])) behind).0 in
    install_next (λ (w : State). w.base_index < 2 ^ 63) v t i u small (base_small-adopt v t small) (ltb-true i (2 ^ 63) here)
base_small-next (Read a b) v fit small = small
base_small-next Status v fit small = small
base_small-next Retire v fit small = omega arith
