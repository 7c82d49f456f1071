-- Runs of terms, and the entries that they stand for.
use Rattle.std.proofs.Common.{◌≡◌, ℕ, zero, suc, ◌+◌, ◌-◌, ◌^◌, ◌≤◌, ◌<◌, ◌==◌, ◌&&◌, List, [], ◌∷◌, ◌++◌, length, take, drop, true, false, Bool, Option, None, Some, refl, sym, ap, ◌∙◌, inl, inr, arith}
use Rattle.std.specs.Prelude.{nat_lt, replicate, slice_get, get_or, if◌then◌else◌}
use Rattle.std.specs.List.Sorted.{IsPartitionedBy}
use Rattle.std.proofs.lemmas.Option.{slice_get-get_or}
use Rattle.std.proofs.lemmas.List.Sorted.{IsPartitionedBy-ltb}
use Rattle.std.specs.Option.{option_map, option_map_or}
use Rattle.std.proofs.Math.Seq.{drop-append-add, take-append-add}
use Rattle.std.proofs.lemmas.Bool.{and_parts, cases_Bool, ltb-true, ltb-false}
use Rattle.std.proofs.lemmas.Bool.Decides.{nat_tests}
use Rattle.std.proofs.lemmas.List.{append_assoc, append-nil, drop-append-le, drop-replicate, length-append, length-replicate, replicate_more, take-append-le, take-replicate}
use Rattle.raft_voter_outline.specs.declared.outline.run.Run.{Run}
use Rattle.raft_voter_outline.specs.Runs.{are_runs, runs_behind, runs_below, top_term, unrolled}
use Rattle.raft_voter_outline.proofs.Indexes.{Pair}

both : (a b : Bool) → a ≡ true → b ≡ true → (a && b) ≡ true
both a b e f = rw (e, f) refl

-- the entries of one run
abbrev pub run_of : ℕ → ℕ → List Pair
run_of n t = replicate n (t, [])

-- the index of the last entry
abbrev pub end_of : ℕ → List Run → ℕ
end_of b [] = b
end_of b (r ∷ rs) = end_of r.last rs

pub base_small : (rs : List Run) (b : ℕ) → are_runs b rs ≡ true → b < 2 ^ 63
base_small [] b h = ltb-true b (2 ^ 63) h
base_small (r ∷ rs) b h =
    let parts = and_parts (nat_lt b r.last) (are_runs r.last rs) h in
    omega (arith, ltb-true b r.last parts.0, base_small rs r.last parts.1)

pub end_small : (rs : List Run) (b : ℕ) → are_runs b rs ≡ true → end_of b rs < 2 ^ 63
end_small [] b h = ltb-true b (2 ^ 63) h
end_small (r ∷ rs) b h = end_small rs r.last (and_parts (nat_lt b r.last) (are_runs r.last rs) h).1

pub end_above : (rs : List Run) (b : ℕ) → are_runs b rs ≡ true → b ≤ end_of b rs
end_above [] b h = omega arith
end_above (r ∷ rs) b h =
    let parts = and_parts (nat_lt b r.last) (are_runs r.last rs) h in
    omega (arith, ltb-true b r.last parts.0, end_above rs r.last parts.1)

pub end-unrolled : (rs : List Run) (b : ℕ) → are_runs b rs ≡ true → b + length (unrolled b rs) ≡ end_of b rs
end-unrolled [] b h = omega arith
end-unrolled (r ∷ rs) b h =
    let parts = and_parts (nat_lt b r.last) (are_runs r.last rs) h in
    let size : length (run_of (r.last - b) r.term ++ unrolled r.last rs) ≡ (r.last - b) + length (unrolled r.last rs) =
    length-append (run_of (r.last - b) r.term) (unrolled r.last rs)
    ∙ ap (λ n. n + length (unrolled r.last rs)) (length-replicate (r.last - b) (r.term, [])) in
    omega (arith, ltb-true b r.last parts.0, end-unrolled rs r.last parts.1, size)

-- each run has an entry, so where there is no entry there is no run
pub none_unrolled : (rs : List Run) (b : ℕ) → are_runs b rs ≡ true → unrolled b rs ≡ [] → length rs ≡ 0
none_unrolled [] b h e = refl
none_unrolled (r ∷ rs) b h e =
    let parts = and_parts (nat_lt b r.last) (are_runs r.last rs) h in
    let none : length (unrolled b (r ∷ rs)) ≡ 0 = ap length e in
    let whole : b + length (unrolled b (r ∷ rs)) ≡ end_of r.last rs = end-unrolled (r ∷ rs) b h in
    absurd (omega (arith, none, whole, ltb-true b r.last parts.0, end_above rs r.last parts.1))

pub unrolled-append : (xs ys : List Run) (b : ℕ) → unrolled b (xs ++ ys) ≡ unrolled b xs ++ unrolled (end_of b xs) ys
unrolled-append [] ys b = refl
unrolled-append (x ∷ xs) ys b =
    ap (λ (l : List Pair). run_of (x.last - b) x.term ++ l) (unrolled-append xs ys x.last)
    ∙ sym (append_assoc (run_of (x.last - b) x.term) (unrolled x.last xs) (unrolled (end_of x.last xs) ys))

pub runs-append :
    (xs ys : List Run) (b : ℕ) → are_runs b xs ≡ true → are_runs (end_of b xs) ys ≡ true → are_runs b (xs ++ ys) ≡ true
runs-append [] ys b h k = k
runs-append (x ∷ xs) ys b h k =
    let parts = and_parts (nat_lt b x.last) (are_runs x.last xs) h in
    both (nat_lt b x.last) (are_runs x.last (xs ++ ys)) parts.0 (runs-append xs ys x.last parts.1 k)

pub runs_front : (xs ys : List Run) (b : ℕ) → are_runs b (xs ++ ys) ≡ true → are_runs b xs ≡ true
runs_front [] ys b h = let small = base_small ys b h in grind (arith, nat_tests)
runs_front (x ∷ xs) ys b h =
    let parts = and_parts (nat_lt b x.last) (are_runs x.last (xs ++ ys)) h in
    both (nat_lt b x.last) (are_runs x.last xs) parts.0 (runs_front xs ys x.last parts.1)

pub runs_back : (xs ys : List Run) (b : ℕ) → are_runs b (xs ++ ys) ≡ true → are_runs (end_of b xs) ys ≡ true
runs_back [] ys b h = h
runs_back (x ∷ xs) ys b h = runs_back xs ys x.last (and_parts (nat_lt b x.last) (are_runs x.last (xs ++ ys)) h).1

-- Elements.

get_behind : (xs ys : List Pair) (n : ℕ) → slice_get (xs ++ ys) (length xs + n) ≡ slice_get ys n
get_behind [] ys n = let none : 0 + n ≡ n = omega arith in rw none refl
get_behind (x ∷ xs) ys n = let one : suc (length xs) + n ≡ suc (length xs + n) = omega arith in rw one (get_behind xs ys n)

get_within : (n k : ℕ) (x : Pair) (ys : List Pair) → k < n → slice_get (replicate n x ++ ys) k ≡ Some x
get_within zero k x ys h = absurd (omega (arith, h))
get_within (suc n) zero x ys h = refl
get_within (suc n) (suc k) x ys h = get_within n k x ys (omega (arith, h))

-- the term of the entry at an index is that of the first run that doesn't end below it
pub get_unrolled :
    (rs : List Run) (b i : ℕ) → are_runs b rs ≡ true → b < i
    → option_map (λ (e : Pair). e.0) (slice_get (unrolled b rs) (i - b - 1)) ≡ option_map (λ (r : Run). r.term) (slice_get rs (runs_below i rs))
get_unrolled [] b i h above = refl
get_unrolled (r ∷ rs) b i h above =
    let parts = and_parts (nat_lt b r.last) (are_runs r.last rs) h in
    let up : b < r.last = ltb-true b r.last parts.0 in
    let x : Pair = (r.term, []) in
    elim (cases_Bool (nat_lt r.last i)) [
      | inl behind ↦
          let later : r.last < i = ltb-true r.last i behind in
          let one : 1 + runs_below i rs ≡ suc (runs_below i rs) = omega arith in
          let size : length (replicate (r.last - b) x) ≡ r.last - b = length-replicate (r.last - b) x in
          let place : i - b - 1 ≡ length (replicate (r.last - b) x) + (i - r.last - 1) = omega (arith, size, up, later) in
          rw (behind, one) (ap (λ k. option_map (λ (e : Pair). e.0) (slice_get (replicate (r.last - b) x ++ unrolled r.last rs) k)) place
          ∙ ap (λ (o : Option Pair). option_map (λ (e : Pair). e.0) o) (get_behind (replicate (r.last - b) x) (unrolled r.last rs) (i - r.last - 1))
          ∙ get_unrolled rs r.last i parts.1 later)
      | inr here ↦
          let within : i ≤ r.last = ltb-false r.last i here in
          rw here (ap (λ (o : Option Pair). option_map (λ (e : Pair). e.0) o) (get_within (r.last - b) (i - b - 1) x (unrolled r.last rs) (omega (arith, within, above))))
    ]

-- the last run is the first that doesn't end below the last index
pub last_place : (r : Run) (rs : List Run) (b : ℕ) → are_runs b (r ∷ rs) ≡ true → runs_below (end_of b (r ∷ rs)) (r ∷ rs) ≡ length rs
last_place r [] b h = let level : nat_lt r.last r.last ≡ false = grind (arith, nat_tests) in rw level refl
last_place r (x ∷ rs) b h =
    let rest = (and_parts (nat_lt b r.last) (are_runs r.last (x ∷ rs)) h).1 in
    let parts = and_parts (nat_lt r.last x.last) (are_runs x.last rs) rest in
    let up : r.last < x.last = ltb-true r.last x.last parts.0 in
    let far = end_above rs x.last parts.1 in
    let below : nat_lt r.last (end_of x.last rs) ≡ true = grind (arith, nat_tests) in
    rw below (omega (arith, last_place x rs r.last rest))

pub top_unrolled :
    (rs : List Run) (b : ℕ) (r : Run) → are_runs b rs ≡ true → slice_get rs (length rs - 1) ≡ Some r
    → (top_term (unrolled b rs) ≡ Some r.term) × (end_of b rs ≡ r.last)
top_unrolled [] b r h is = absurd (cc)
top_unrolled (x ∷ rs) b r h is =
    let parts = and_parts (nat_lt b x.last) (are_runs x.last rs) h in
    let up : b < x.last = ltb-true b x.last parts.0 in
    let far = end_above rs x.last parts.1 in
    let size = end-unrolled (x ∷ rs) b h in
    let place : length (unrolled b (x ∷ rs)) - 1 ≡ end_of b (x ∷ rs) - b - 1 = omega (arith, size, far, up) in
    let n : suc (length rs) - 1 ≡ length rs = omega arith in
    let there : slice_get (x ∷ rs) (runs_below (end_of b (x ∷ rs)) (x ∷ rs)) ≡ Some r =
    ap (λ k. slice_get (x ∷ rs) k) (last_place x rs b h ∙ sym n) ∙ is in (
      ap (λ k. option_map (λ (e : Pair). e.0) (slice_get (unrolled b (x ∷ rs)) k)) place
          ∙ get_unrolled (x ∷ rs) b (end_of b (x ∷ rs)) h (omega (arith, far, up))
          ∙ ap (λ (o : Option Run). option_map (λ (y : Run). y.term) o) there,
      end_last x rs b r (ap (λ k. slice_get (x ∷ rs) k) (sym n) ∙ is),
    )
  where
    end_last : (x : Run) (rs : List Run) (b : ℕ) (r : Run) → slice_get (x ∷ rs) (length rs) ≡ Some r → end_of b (x ∷ rs) ≡ r.last
    end_last x [] b r is = let same : x ≡ r = cc in ap (λ (y : Run). y.last) same
    end_last x (y ∷ rs) b r is = end_last y rs x.last r is

-- Parts.

nothing_dropped : (n : ℕ) → drop n (let none : List Pair = [] in none) ≡ []
nothing_dropped zero = refl
nothing_dropped (suc n) = refl

pub take_unrolled :
    (rs : List Run) (b i : ℕ) (r : Run) → are_runs b rs ≡ true → b < i → slice_get rs (runs_below i rs) ≡ Some r
    → (unrolled b (take (runs_below i rs) rs ++ record { last = i; term = r.term } ∷ []) ≡ take (i - b) (unrolled b rs))
    × (are_runs b (take (runs_below i rs) rs ++ record { last = i; term = r.term } ∷ []) ≡ true)
take_unrolled [] b i r h above is = absurd (cc)
take_unrolled (x ∷ xs) b i r h above is =
    let parts = and_parts (nat_lt b x.last) (are_runs x.last xs) h in
    let up : b < x.last = ltb-true b x.last parts.0 in
    let y : Pair = (x.term, []) in
    let size : length (replicate (x.last - b) y) ≡ x.last - b = length-replicate (x.last - b) y in
    elim (cases_Bool (nat_lt x.last i)) [
      | inl behind ↦
          let later : x.last < i = ltb-true x.last i behind in
          let one : 1 + runs_below i xs ≡ suc (runs_below i xs) = omega arith in
          let is' : slice_get xs (runs_below i xs) ≡ Some r = rw (behind, one) at is in
          let rest = take_unrolled xs x.last i r parts.1 later is' in
          let more : i - b ≡ length (replicate (x.last - b) y) + (i - x.last) = omega (arith, size, up, later) in
          rw (behind, one) (
            ap (λ (l : List Pair). replicate (x.last - b) y ++ l) rest.0
                ∙ sym (ap (λ k. take k (replicate (x.last - b) y ++ unrolled x.last xs)) more
                ∙ take-append-add (replicate (x.last - b) y) (unrolled x.last xs) (i - x.last)),
            both (nat_lt b x.last) (are_runs x.last (take (runs_below i xs) xs ++ record { last = i; term = r.term } ∷ [])) parts.0 rest.1,
          )
      | inr here ↦
          let within : i ≤ x.last = ltb-false x.last i here in
          let is' : Some x ≡ Some r = rw here at is in
          let same : x ≡ r = cc in
          let small = base_small xs x.last parts.1 in
          let low : nat_lt b i ≡ true = grind (arith, nat_tests) in
          let high : nat_lt i (2 ^ 63) ≡ true = grind (arith, nat_tests) in
          rw here (
            append-nil (run_of (i - b) r.term) ∙ ap (λ (z : Run). run_of (i - b) z.term) (sym same)
                ∙ sym (take-append-le (i - b) (replicate (x.last - b) y) (unrolled x.last xs) (omega (arith, size, within, up))
                ∙ take-replicate (i - b) (x.last - b) y (omega (arith, within))),
            both (nat_lt b i) (nat_lt i (2 ^ 63)) low high,
          )
    ]

end_within :
    (rs : List Run) (b i : ℕ) → b < i → length rs ≤ runs_below i rs → end_of b rs < i
end_within [] b i above all = above
end_within (x ∷ xs) b i above all = elim (cases_Bool (nat_lt x.last i)) [
  | inl behind ↦
      let more : suc (length xs) ≤ 1 + runs_below i xs = rw behind at all in
      end_within xs x.last i (ltb-true x.last i behind) (omega (arith, more))
  | inr here ↦ let none : suc (length xs) ≤ 0 = rw here at all in absurd (omega (arith, none))
]

take_past : (xs : List Pair) (n : ℕ) → length xs ≤ n → take n xs ≡ xs
take_past [] zero h = refl
take_past [] (suc n) h = refl
take_past (x ∷ xs) zero h = absurd (omega (arith, h))
take_past (x ∷ xs) (suc n) h = ap (λ (l : List Pair). x ∷ l) (take_past xs n (omega (arith, h)))

pub take_whole :
    (rs : List Run) (b i : ℕ) → are_runs b rs ≡ true → b < i → length rs ≤ runs_below i rs
    → unrolled b rs ≡ take (i - b) (unrolled b rs)
take_whole rs b i h above all =
    sym (take_past (unrolled b rs) (i - b) (omega (arith, end-unrolled rs b h, end_within rs b i above all)))

pub drop_unrolled :
    (rs : List Run) (b i : ℕ) → are_runs b rs ≡ true → b ≤ i → i < 2 ^ 63
    → (unrolled i (drop (runs_below (i + 1) rs) rs) ≡ drop (i - b) (unrolled b rs))
    × (are_runs i (drop (runs_below (i + 1) rs) rs) ≡ true)
drop_unrolled [] b i h above small = (sym (nothing_dropped (i - b)), grind (arith, nat_tests))
drop_unrolled (x ∷ xs) b i h above small =
    let parts = and_parts (nat_lt b x.last) (are_runs x.last xs) h in
    let up : b < x.last = ltb-true b x.last parts.0 in
    let y : Pair = (x.term, []) in
    let size : length (replicate (x.last - b) y) ≡ x.last - b = length-replicate (x.last - b) y in
    elim (cases_Bool (nat_lt x.last (i + 1))) [
      | inl behind ↦
          let later : x.last < i + 1 = ltb-true x.last (i + 1) behind in
          let one : 1 + runs_below (i + 1) xs ≡ suc (runs_below (i + 1) xs) = omega arith in
          let rest = drop_unrolled xs x.last i parts.1 (omega (arith, later)) small in
          let more : i - b ≡ length (replicate (x.last - b) y) + (i - x.last) = omega (arith, size, up, later) in
          rw (behind, one) (
            rest.0 ∙ sym (ap (λ k. drop k (replicate (x.last - b) y ++ unrolled x.last xs)) more
                ∙ drop-append-add (replicate (x.last - b) y) (unrolled x.last xs) (i - x.last)),
            rest.1,
          )
      | inr here ↦
          let within : i + 1 ≤ x.last = ltb-false x.last (i + 1) here in
          let low : nat_lt i x.last ≡ true = grind (arith, nat_tests) in
          let left : x.last - b - (i - b) ≡ x.last - i = omega (arith, up, within, above) in
          rw here (
            sym (drop-append-le (i - b) (replicate (x.last - b) y) (unrolled x.last xs) (omega (arith, size, within, above))
                ∙ ap (λ (l : List Pair). l ++ unrolled x.last xs) (drop-replicate (i - b) (x.last - b) y ∙ ap (λ k. replicate k y) left)),
            both (nat_lt i x.last) (are_runs x.last xs) low parts.1,
          )
    ]

-- One more entry.

pub last_split : (rs : List Run) (r : Run) → slice_get rs (length rs - 1) ≡ Some r → rs ≡ take (length rs - 1) rs ++ r ∷ []
last_split [] r is = absurd (cc)
last_split (x ∷ xs) r is =
    let n : suc (length xs) - 1 ≡ length xs = omega arith in
    let is' : slice_get (x ∷ xs) (length xs) ≡ Some r = ap (λ k. slice_get (x ∷ xs) k) (sym n) ∙ is in
    split x xs r is' ∙ ap (λ k. take k (x ∷ xs) ++ r ∷ []) (sym n)
  where
    split : (x : Run) (xs : List Run) (r : Run) → slice_get (x ∷ xs) (length xs) ≡ Some r → x ∷ xs ≡ take (length xs) (x ∷ xs) ++ r ∷ []
    split x [] r is = let same : x ≡ r = cc in ap (λ (z : Run). z ∷ []) same
    split x (y ∷ xs) r is = ap (λ (l : List Run). x ∷ l) (split y xs r is)

pub snoc_new :
    (rs : List Run) (b t last : ℕ) → are_runs b rs ≡ true → last ≡ end_of b rs + 1 → last < 2 ^ 63
    → (unrolled b (rs ++ record { last = last; term = t } ∷ []) ≡ unrolled b rs ++ (t, []) ∷ [])
    × (are_runs b (rs ++ record { last = last; term = t } ∷ []) ≡ true)
snoc_new rs b t last h is small =
    let one : last - end_of b rs ≡ 1 = omega (arith, is) in
    let low : nat_lt (end_of b rs) last ≡ true = grind (arith, nat_tests) in
    let high : nat_lt last (2 ^ 63) ≡ true = grind (arith, nat_tests) in (
      unrolled-append rs (record { last = last; term = t } ∷ []) b ∙ ap (λ k. unrolled b rs ++ (run_of k t ++ [])) one,
      runs-append rs (record { last = last; term = t } ∷ []) b h (both (nat_lt (end_of b rs) last) (nat_lt last (2 ^ 63)) low high),
    )

pub snoc_same :
    (fs : List Run) (b last : ℕ) (r : Run) → are_runs b (fs ++ r ∷ []) ≡ true → last ≡ r.last + 1 → last < 2 ^ 63
    → (unrolled b (fs ++ record { last = last; term = r.term } ∷ []) ≡ unrolled b (fs ++ r ∷ []) ++ (r.term, []) ∷ [])
    × (are_runs b (fs ++ record { last = last; term = r.term } ∷ []) ≡ true)
snoc_same fs b last r h is small =
    let e = end_of b fs in
    let front = runs_front fs (r ∷ []) b h in
    let parts = and_parts (nat_lt e r.last) (nat_lt r.last (2 ^ 63)) (runs_back fs (r ∷ []) b h) in
    let up : e < r.last = ltb-true e r.last parts.0 in
    let one : last - e ≡ r.last - e + 1 = omega (arith, is, up) in
    let low : nat_lt e last ≡ true = grind (arith, nat_tests) in
    let high : nat_lt last (2 ^ 63) ≡ true = grind (arith, nat_tests) in
    let y : Pair = (r.term, []) in
    let grown : run_of (last - e) r.term ++ [] ≡ (run_of (r.last - e) r.term ++ []) ++ y ∷ [] =
    append-nil (run_of (last - e) r.term) ∙ ap (λ k. run_of k r.term) one ∙ sym (replicate_more (r.last - e) y)
    ∙ ap (λ (l : List Pair). l ++ y ∷ []) (sym (append-nil (run_of (r.last - e) r.term))) in (
      unrolled-append fs (record { last = last; term = r.term } ∷ []) b ∙ ap (λ (l : List Pair). unrolled b fs ++ l) grown
          ∙ sym (ap (λ (l : List Pair). l ++ y ∷ []) (unrolled-append fs (r ∷ []) b)
          ∙ append_assoc (unrolled b fs) (run_of (r.last - e) r.term ++ []) (y ∷ [])),
      runs-append fs (record { last = last; term = r.term } ∷ []) b front (both (nat_lt e last) (nat_lt last (2 ^ 63)) low high),
    )

-- How many runs entries make.

one_less : (b : Bool) → (if b then 0 else 1) ≤ 1
one_less true = omega arith
one_less false = omega arith

-- where nothing is known of what stands before, no fewer
pub runs_behind-none : (es : List Pair) (o : Option ℕ) → runs_behind o es ≤ runs_behind None es
runs_behind-none [] o = omega arith
runs_behind-none (e ∷ es) o = omega (arith, one_less (option_map_or (λ t. t == e.0) o false))

-- Runs rise, so that a binary search finds them.

pub above_base :
    (rs : List Run) (b j : ℕ) (d : Run) → are_runs b rs ≡ true → j < length rs → b < (get_or rs j d).last
above_base [] b j d h within = absurd (omega (arith, within))
above_base (r ∷ rs) b zero d h within = ltb-true b r.last (and_parts (nat_lt b r.last) (are_runs r.last rs) h).0
above_base (r ∷ rs) b (suc j) d h within =
    let parts = and_parts (nat_lt b r.last) (are_runs r.last rs) h in
    omega (arith, ltb-true b r.last parts.0, above_base rs r.last j d parts.1 (omega (arith, within)))

pub runs_rise :
    (rs : List Run) (b i j : ℕ) (d : Run) → are_runs b rs ≡ true → i ≤ j → j < length rs
    → (get_or rs i d).last ≤ (get_or rs j d).last
runs_rise [] b i j d h le within = absurd (omega (arith, within))
runs_rise (r ∷ rs) b zero zero d h le within = omega arith
runs_rise (r ∷ rs) b zero (suc j) d h le within =
    let rest = (and_parts (nat_lt b r.last) (are_runs r.last rs) h).1 in
    omega (arith, above_base rs r.last j d rest (omega (arith, within)))
runs_rise (r ∷ rs) b (suc i) zero d h le within = absurd (omega (arith, le))
runs_rise (r ∷ rs) b (suc i) (suc j) d h le within =
    runs_rise rs r.last i j d (and_parts (nat_lt b r.last) (are_runs r.last rs) h).1 (omega (arith, le)) (omega (arith, within))

pub found_below :
    (rs : List Run) (b i : ℕ) → are_runs b rs ≡ true → IsPartitionedBy (λ r. nat_lt r.last i) rs
found_below rs b i h = IsPartitionedBy-ltb (λ (r : Run). r.last) rs i (λ j k d le within. runs_rise rs b j k d h le within)

abbrev pub no_run : Run
no_run = record { last = 0; term = 0 }

-- the last run, where the last entry has this term
pub same_top :
    (rs : List Run) (b t : ℕ) → are_runs b rs ≡ true → top_term (unrolled b rs) ≡ Some t
    → (r : Run) × (rs ≡ take (length rs - 1) rs ++ r ∷ []) × (r.term ≡ t) × (end_of b rs ≡ r.last)
same_top [] b t h is = let none : None ≡ Some t = is in absurd (cc)
same_top (x ∷ xs) b t h is =
    let rs = x ∷ xs in
    let r = get_or rs (length rs - 1) no_run in
    let there : slice_get rs (length rs - 1) ≡ Some r = slice_get-get_or rs (length rs - 1) no_run (omega arith) in
    let top = top_unrolled rs b r h there in
    let one : Some r.term ≡ Some t = sym top.0 ∙ is in
    (r, last_split rs r there, cc, top.1)

-- an entry more of the term of the last one
pub more_of_top :
    (rs : List Run) (b t last : ℕ) → are_runs b rs ≡ true → top_term (unrolled b rs) ≡ Some t → last ≡ end_of b rs + 1
    → last < 2 ^ 63
    → (unrolled b (take (length rs - 1) rs ++ record { last = last; term = t } ∷ []) ≡ unrolled b rs ++ (t, []) ∷ [])
    × (are_runs b (take (length rs - 1) rs ++ record { last = last; term = t } ∷ []) ≡ true)
more_of_top rs b t last h is next small =
    let found = same_top rs b t h is in
    let r = found.0 in
    let front = take (length rs - 1) rs in
    let parts = found.1 in
    let whole : are_runs b (front ++ r ∷ []) ≡ true = ap (λ (l : List Run). are_runs b l) (sym parts) ∙ h in
    let grown = snoc_same front b last r whole (omega (arith, next, found.3)) small in
    let same = found.2 in (
      ap (λ k. let run : Run = record { last = last; term = k } in unrolled b (front ++ run ∷ [])) (sym same) ∙ grown.0
          ∙ ap (λ k. unrolled b (front ++ r ∷ []) ++ (k, []) ∷ []) same
          ∙ ap (λ (l : List Run). unrolled b l ++ (t, []) ∷ []) (sym parts),
      ap (λ k. let run : Run = record { last = last; term = k } in are_runs b (front ++ run ∷ [])) (sym same) ∙ grown.1,
    )

-- the last of more entries
pub top-push : (log : List Pair) (e : Pair) → top_term (log ++ e ∷ []) ≡ Some e.0
top-push log e =
    let n : length (log ++ e ∷ []) - 1 ≡ length log + 0 = omega (arith, length-append log (e ∷ [])) in
    ap (λ k. option_map (λ (x : Pair). x.0) (slice_get (log ++ e ∷ []) k)) n
    ∙ ap (λ (o : Option Pair). option_map (λ (x : Pair). x.0) o) (get_behind log (e ∷ []) 0)

-- one entry's runs, and those of the entries behind it
pub runs_behind-first :
    (o : Option ℕ) (t : ℕ) (bytes : List ℕ) (es : List Pair)
    → runs_behind o ((t, bytes) ∷ es) ≡ runs_behind o ((t, []) ∷ []) + runs_behind (Some t) es
runs_behind-first o t bytes es = omega arith
