-- What of a voter doesn't depend on its entries' bytes.
use Rattle.std.proofs.Common.{◌≡◌, ℕ, zero, suc, ◌+◌, ◌-◌, ◌==◌, ◌&&◌, List, [], ◌∷◌, ◌++◌, length, take, drop, nat_lt, nat_le, if◌then◌else◌, false, Option, None, Some, refl, ap, ◌∙◌, inl, inr}
use Rattle.std.specs.Prelude.{slice_get}
use Rattle.std.specs.Option.{option_map_or}
use Rattle.std.proofs.lemmas.Bool.{cases_Bool}
use Rattle.raft_voter_outline.specs.State.{State, adopt_term, last_index, last_term, term_at}
use Rattle.raft_voter_outline.specs.Rules.{agrees_at, can_compact, grants, is_up_to_date, matching, may_vote}
use Rattle.raft_voter_outline.specs.Runs.{bare}
use Rattle.raft_voter_outline.specs.Outlines.{without_bytes}
use Rattle.raft_voter_outline.proofs.Indexes.{Pair, term_of}

-- Lists.

pub length-bare : (es : List Pair) → length (bare es) ≡ length es
length-bare [] = refl
length-bare (e ∷ es) = ap suc (length-bare es)

pub bare-append : (es fs : List Pair) → bare (es ++ fs) ≡ bare es ++ bare fs
bare-append [] fs = refl
bare-append (e ∷ es) fs = ap (λ (l : List Pair). (e.0, []) ∷ l) (bare-append es fs)

pub bare-take : (n : ℕ) (es : List Pair) → bare (take n es) ≡ take n (bare es)
bare-take zero es = refl
bare-take (suc n) [] = refl
bare-take (suc n) (e ∷ es) = ap (λ (l : List Pair). (e.0, []) ∷ l) (bare-take n es)

pub bare-drop : (n : ℕ) (es : List Pair) → bare (drop n es) ≡ drop n (bare es)
bare-drop zero es = refl
bare-drop (suc n) [] = refl
bare-drop (suc n) (e ∷ es) = bare-drop n es

pub bare-bare : (es : List Pair) → bare (bare es) ≡ bare es
bare-bare [] = refl
bare-bare (e ∷ es) = ap (λ (l : List Pair). (e.0, []) ∷ l) (bare-bare es)

term-bare : (es : List Pair) (k : ℕ) → term_of (slice_get (bare es) k) ≡ term_of (slice_get es k)
term-bare [] k = refl
term-bare (e ∷ es) zero = refl
term-bare (e ∷ es) (suc k) = term-bare es k

pub matching-bare : (old sent : List Pair) → matching (bare old) sent ≡ matching old sent
matching-bare [] sent = refl
matching-bare (o ∷ old) [] = refl
matching-bare (o ∷ old) (e ∷ sent) = elim (cases_Bool (o.0 == e.0)) [
  | inl same ↦ rw same (ap (λ k. 1 + k) (matching-bare old sent))
  | inr other ↦ rw other refl
]

-- Voters.

pub last_index-bare : (v : State) → last_index (without_bytes v) ≡ last_index v
last_index-bare v = ap (λ n. v.base_index + n) (length-bare v.log)

pub last_term-bare : (v : State) → last_term (without_bytes v) ≡ last_term v
last_term-bare v =
    let place : length (bare v.log) - 1 ≡ length v.log - 1 = ap (λ n. n - 1) (length-bare v.log) in
    ap (λ (o : Option ℕ). option_map_or (λ t. t) o v.base_term) (ap (λ k. term_of (slice_get (bare v.log) k)) place ∙ term-bare v.log (length v.log - 1))

pub term_at-bare : (v : State) (i : ℕ) → term_at (without_bytes v) i ≡ term_at v i
term_at-bare v i =
    let here : term_of (if nat_lt v.base_index i then slice_get (bare v.log) (i - v.base_index - 1) else None) ≡ term_of (if nat_lt v.base_index i then slice_get v.log (i - v.base_index - 1) else None) =
    elim (cases_Bool (nat_lt v.base_index i)) [
      | inl inside ↦ rw inside (term-bare v.log (i - v.base_index - 1))
      | inr out ↦ rw out refl
    ] in
    ap (λ (o : Option ℕ). if i == v.base_index then Some v.base_term else o) here

pub agrees_at-bare : (v : State) (i t : ℕ) → agrees_at (without_bytes v) i t ≡ agrees_at v i t
agrees_at-bare v i t = ap (λ (o : Option ℕ). option_map_or (λ x. x == t) o false) (term_at-bare v i)

pub adopt_term-bare : (v : State) (t : ℕ) → adopt_term (without_bytes v) t ≡ without_bytes (adopt_term v t)
adopt_term-bare v t = elim (cases_Bool (nat_lt v.term t)) [
  | inl higher ↦ rw higher refl
  | inr level ↦ rw level refl
]

is_up_to_date-bare : (v : State) (i u : ℕ) → is_up_to_date (without_bytes v) i u ≡ is_up_to_date v i u
is_up_to_date-bare v i u = rw (last_term-bare v, last_index-bare v) refl

may_vote-bare : (v : State) (t c : ℕ) → may_vote (adopt_term (without_bytes v) t) c ≡ may_vote (adopt_term v t) c
may_vote-bare v t c = ap (λ (w : State). may_vote w c) (adopt_term-bare v t)

pub grants-bare : (v : State) (t c i u : ℕ) → grants (without_bytes v) t c i u ≡ grants v t c i u
grants-bare v t c i u =
    ap (λ b. nat_le v.term t && b && is_up_to_date (without_bytes v) i u) (may_vote-bare v t c)
    ∙ ap (λ b. nat_le v.term t && may_vote (adopt_term v t) c && b) (is_up_to_date-bare v i u)

pub can_compact-bare : (v : State) (i : ℕ) → can_compact (without_bytes v) i ≡ can_compact v i
can_compact-bare v i = ap (λ l. nat_lt v.base_index i && nat_le i l && nat_le i v.commit) (last_index-bare v)
