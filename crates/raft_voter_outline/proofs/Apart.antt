-- Runs of which neighbours have different terms.
use Rattle.std.proofs.Common.{◌≡◌, ◌≢◌, ℕ, zero, suc, ◌-◌, ◌==◌, ◌&&◌, List, [], ◌∷◌, ◌++◌, length, take, drop, true, false, Bool, Option, None, Some, refl, sym, ap, ◌∙◌, inl, inr, arith}
use Rattle.std.specs.Prelude.{not, get_or, slice_get}
use Rattle.std.proofs.lemmas.Bool.{and_parts, cases_Bool, eqb-true}
use Rattle.std.proofs.lemmas.Option.{slice_get-get_or}
use Rattle.raft_voter_outline.specs.declared.outline.run.Run.{Run}
use Rattle.raft_voter_outline.specs.Runs.{are_apart, are_runs, is_behind, top_term, unrolled}
use Rattle.raft_voter_outline.proofs.Unrolling.{no_run, top_unrolled}

both : (a b : Bool) → a ≡ true → b ≡ true → (a && b) ≡ true
both a b e f = rw (e, f) refl

-- whatever stood before the first
pub apart-none : (rs : List Run) (o : Option ℕ) → are_apart o rs ≡ true → are_apart None rs ≡ true
apart-none [] o h = refl
apart-none (r ∷ rs) o h = (and_parts (not (is_behind o r.term)) (are_apart (Some r.term) rs) h).1

pub apart-drop : (n : ℕ) (rs : List Run) (o : Option ℕ) → are_apart o rs ≡ true → are_apart None (drop n rs) ≡ true
apart-drop zero rs o h = apart-none rs o h
apart-drop (suc n) [] o h = refl
apart-drop (suc n) (r ∷ rs) o h =
    apart-drop n rs (Some r.term) (and_parts (not (is_behind o r.term)) (are_apart (Some r.term) rs) h).1

-- a run that is made shorter or longer, without those behind it
pub apart_cut :
    (rs : List Run) (n i : ℕ) (o : Option ℕ) (r : Run) → are_apart o rs ≡ true → slice_get rs n ≡ Some r
    → are_apart o (take n rs ++ record { last = i; term = r.term } ∷ []) ≡ true
apart_cut [] n i o r h is = absurd (cc)
apart_cut (x ∷ xs) zero i o r h is =
    let same : x ≡ r = cc in
    let first = (and_parts (not (is_behind o x.term)) (are_apart (Some x.term) xs) h).0 in
    both (not (is_behind o r.term)) true (ap (λ (y : Run). not (is_behind o y.term)) (sym same) ∙ first) refl
apart_cut (x ∷ xs) (suc n) i o r h is =
    let parts = and_parts (not (is_behind o x.term)) (are_apart (Some x.term) xs) h in
    both (not (is_behind o x.term)) (are_apart (Some x.term) (take n xs ++ record { last = i; term = r.term } ∷ [])) parts.0
    (apart_cut xs n i (Some x.term) r parts.1 is)

-- the term of the last run, or what stands before the first
abbrev last_of : Option ℕ → List Run → Option ℕ
last_of o [] = o
last_of o (r ∷ rs) = last_of (Some r.term) rs

not_behind : (o : Option ℕ) (t : ℕ) → o ≢ Some t → is_behind o t ≡ false
not_behind None t other = refl
not_behind (Some x) t other = elim (cases_Bool (x == t)) [
  | inl same ↦ absurd (other (ap (λ y. Some y) (eqb-true x t same)))
  | inr differs ↦ differs
]

apart_behind :
    (rs : List Run) (o : Option ℕ) (r : Run) → are_apart o rs ≡ true → last_of o rs ≢ Some r.term
    → are_apart o (rs ++ r ∷ []) ≡ true
apart_behind [] o r h other = rw (not_behind o r.term other) refl
apart_behind (x ∷ xs) o r h other =
    let parts = and_parts (not (is_behind o x.term)) (are_apart (Some x.term) xs) h in
    both (not (is_behind o x.term)) (are_apart (Some x.term) (xs ++ r ∷ [])) parts.0 (apart_behind xs (Some x.term) r parts.1 other)

last_of-get : (x : Run) (xs : List Run) (o : Option ℕ) (r : Run) → slice_get (x ∷ xs) (length xs) ≡ Some r → last_of o (x ∷ xs) ≡ Some r.term
last_of-get x [] o r is = let same : x ≡ r = cc in ap (λ (y : Run). Some y.term) same
last_of-get x (y ∷ ys) o r is = last_of-get y ys (Some x.term) r is

-- the last run there is
top_run :
    (x : Run) (xs : List Run) (b : ℕ) → are_runs b (x ∷ xs) ≡ true
    → (r : Run) × (slice_get (x ∷ xs) (length xs) ≡ Some r) × (top_term (unrolled b (x ∷ xs)) ≡ Some r.term)
top_run x xs b h =
    let n : suc (length xs) - 1 ≡ length xs = omega arith in
    let r = get_or (x ∷ xs) (length xs) no_run in
    let there : slice_get (x ∷ xs) (length xs) ≡ Some r = slice_get-get_or (x ∷ xs) (length xs) no_run (omega arith) in
    (r, there, (top_unrolled (x ∷ xs) b r h (ap (λ k. slice_get (x ∷ xs) k) n ∙ there)).0)

-- a run of another term than the last entry's
pub apart_new :
    (rs : List Run) (b t last : ℕ) → are_runs b rs ≡ true → are_apart None rs ≡ true → top_term (unrolled b rs) ≢ Some t
    → are_apart None (rs ++ record { last = last; term = t } ∷ []) ≡ true
apart_new [] b t last h apart other = refl
apart_new (x ∷ xs) b t last h apart other =
    let top = top_run x xs b h in
    let end : last_of None (x ∷ xs) ≡ Some top.0.term = last_of-get x xs None top.0 top.1 in
    apart_behind (x ∷ xs) None (record { last = last; term = t }) apart (λ same. other (top.2 ∙ sym end ∙ same))

-- the last run, made longer
pub apart_top :
    (rs : List Run) (b t last : ℕ) → are_runs b rs ≡ true → are_apart None rs ≡ true → top_term (unrolled b rs) ≡ Some t
    → are_apart None (take (length rs - 1) rs ++ record { last = last; term = t } ∷ []) ≡ true
apart_top [] b t last h apart is = let none : None ≡ Some t = is in absurd (cc)
apart_top (x ∷ xs) b t last h apart is =
    let n : suc (length xs) - 1 ≡ length xs = omega arith in
    let top = top_run x xs b h in
    let one : Some top.0.term ≡ Some t = sym top.2 ∙ is in
    let same : top.0.term ≡ t = cc in
    rw n (ap (λ k. let run : Run = record { last = last; term = k } in are_apart None (take (length xs) (x ∷ xs) ++ run ∷ [])) (sym same)
    ∙ apart_cut (x ∷ xs) (length xs) last None top.0 apart top.1)
