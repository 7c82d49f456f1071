-- Two readings of the same segments.
use Rattle.std.proofs.Common.{◌≡◌, ℕ, suc, List, [], ◌∷◌, length, refl, sym, ap₂, subst, arith}
use Rattle.raft_log_replay.specs.Machines.{Batch}
use Rattle.raft_log_replay.specs.Sources.{HoldEach}
use Rattle.raft_log_replay.specs.Segments.{all_batches, HasReadSegments, HaveReadSame, HoldsOne}

module _ {E : Type 0} (holds : ℕ → List Batch → E → Type 0) (one : HoldsOne holds) where
  same_held : (k : ℕ) (bss css : List (List Batch)) (es fs : List E) → HoldEach holds k bss es → HoldEach holds k css fs → length bss ≡ length css
      → (bss ≡ css) × (es ≡ fs)
  same_held k [] [] [] [] h l same = (refl, refl)
  same_held k [] [] [] (f ∷ fs) h l same = absurd l
  same_held k [] [] (e ∷ es) fs h l same = absurd h
  same_held k [] (cs ∷ css) es fs h l same = absurd (omega arith)
  same_held k (bs ∷ bss) [] es fs h l same = absurd (omega arith)
  same_held k (bs ∷ bss) (cs ∷ css) [] fs h l same = absurd h
  same_held k (bs ∷ bss) (cs ∷ css) (e ∷ es) [] h l same = absurd l
  same_held k (bs ∷ bss) (cs ∷ css) (e ∷ es) (f ∷ fs) h l same =
      let first = one k bs cs e f h.0 l.0 in
      let rest = same_held (suc k) bss css es fs h.1 l.1 (omega arith) in
      (ap₂ (λ x xs. x ∷ xs) first.0 rest.0, ap₂ (λ x xs. x ∷ xs) first.1 rest.1)

  pub read_same : {M : Type 0} (reads : List Batch → M → Type 0) (count : ℕ) (m n : M) (es fs : List E) → HasReadSegments holds reads 0 count m es
      → HasReadSegments holds reads 0 count n fs → HaveReadSame reads m es n fs
  read_same reads count m n es fs h k =
      let all = h.all in
      let more = k.all in
      let both = same_held 0 h.batches k.batches es fs h.held k.held (omega arith) in
      ((all_batches h.batches, h.read, subst (λ bss. reads (all_batches bss) n) (sym both.0) k.read), both.1)
