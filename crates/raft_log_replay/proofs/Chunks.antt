-- Chunks that stand one behind the other.
use Rattle.std.proofs.Common.{◌≡◌, ℕ, zero, suc, ◌+◌, ◌*◌, ◌<◌, ◌≤◌, min, List, [], ◌∷◌, length, refl, ap, subst, ◌∙◌, arith}
use Rattle.std.specs.List.{range_with_len, AllZip}
use Rattle.std.specs.Prelude.{slice_index_or}
use Rattle.raft_log_replay.specs.Segments.{chunk_start, read_by, Follow}

-- what holds of each place and of what stands there holds of the places in a row
pub each_in_row : {A : Type 0} (holds : ℕ → A → Type 0) (a n : ℕ) (xs : List A) → length xs ≡ n
    → ((i : ℕ) (d : A) → i < n → holds (a + i) (slice_index_or xs i d)) → AllZip holds (range_with_len a n) xs
each_in_row holds a zero [] many h = tt
each_in_row holds a zero (x ∷ xs) many h = absurd (omega arith)
each_in_row holds a (suc n) [] many h = absurd (omega arith)
each_in_row holds a (suc n) (x ∷ xs) many h =
    let here : a + 0 ≡ a = omega arith in
    let fewer : length xs ≡ n = omega arith in (
      subst (λ k. holds k x) here (h 0 x (omega arith)),
      each_in_row holds (a + 1) n xs fewer (λ i d lt.
          let next : a + suc i ≡ a + 1 + i = omega arith in
          subst (λ k. holds k (slice_index_or xs i d)) next (h (suc i) d (omega arith))),
    )

module _ {A : Type 0} (between : ℕ → ℕ → A → Type 0) (start : ℕ → ℕ) (rises : (i : ℕ) → start i ≤ start (i + 1)) where
  rises_far : (i n : ℕ) → start i ≤ start (i + n)
  rises_far i zero = let same : start i ≡ start (i + 0) = ap start (omega arith) in omega arith
  rises_far i (suc n) =
      let so_far = rises_far i n in
      let step = rises (i + n) in
      let same : start (i + n + 1) ≡ start (i + suc n) = ap start (omega arith) in
      omega arith

  pub follow_of : (a n : ℕ) (xs : List A) → AllZip (λ i x. between (start i) (start (i + 1)) x) (range_with_len a n) xs
      → Follow between (start a) (start (a + n)) xs
  follow_of a zero [] h = ap start (omega arith)
  follow_of a zero (x ∷ xs) h = absurd h
  follow_of a (suc n) [] h = absurd h
  follow_of a (suc n) (x ∷ xs) h =
      let same : a + 1 + n ≡ a + suc n = omega arith in
      let far : start (a + 1) ≤ start (a + suc n) = subst (λ k. start (a + 1) ≤ start k) same (rises_far (a + 1) n) in
      (start (a + 1), rises a, far, h.0, subst (λ k. Follow between (start (a + 1)) (start k) xs) same (follow_of (a + 1) n xs h.1))

pub start_rises : (size count i : ℕ) → chunk_start size count i ≤ chunk_start size count (i + 1)
start_rises size count i =
    let more : (i + 1) * size ≡ i * size + size = grind (arith) in
    omega arith

-- where a chunk begins and ends, as it is reckoned in numbers of 64 bits
pub start_is : (p n a f : ℕ) → a ≡ min p 18446744073709551615 → f ≡ min a n → n < 18446744073709551616 → f ≡ min p n
start_is p n a f was is fits = omega arith

pub end_is : (p size n f b l q : ℕ) → f ≡ min p n → b ≡ min (f + size) 18446744073709551615 → l ≡ min b n → n < 18446744073709551616 → q ≡ p + size → l ≡ min q n
end_is p size n f b l q at was is fits next = omega arith

pub next_start : (index size : ℕ) → (index + 1) * size ≡ index * size + size
next_start index size = grind (arith)

pub starts_at_once : (size count : ℕ) → chunk_start size count 0 ≡ 0
starts_at_once size count =
    let none : 0 * size ≡ 0 = omega arith in
    ap (λ p. min p count) none ∙ none_of count
  where
    none_of : (n : ℕ) → min 0 n ≡ 0
    none_of n = omega arith

past : (p n : ℕ) → n ≤ p → min p n ≡ n
past p n le = omega arith

pub ends_at_last : (size count chunks : ℕ) → count ≤ chunks * size → chunk_start size count (0 + chunks) ≡ count
ends_at_last size count chunks le =
    let same : 0 + chunks ≡ chunks = omega arith in
    ap (chunk_start size count) same ∙ past (chunks * size) count le

-- some worker reads them all
pub read_some : (workers count : ℕ) → (workers ≡ 0 → ⊥) → read_by workers count ≡ count
read_some zero count some = absurd (some refl)
read_some (suc workers) count some = refl
