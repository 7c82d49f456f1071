-- Segments that are read one behind the other.
use Rattle.std.proofs.Common.{◌≡◌, inl, inr, ℕ, suc, ◌+◌, ◌<◌, ◌≤◌, List, [], ◌∷◌, ◌++◌, length, refl, sym, ap, subst, ◌∙◌, append_assoc, append-nil, Result, Ok, Err, IfOk, IfErr, arith}
use Rattle.std.proofs.lemmas.List.{length-append}
use Rattle.std.proofs.lemmas.Grind.{flat_map-append}
use Rattle.raft_log_record_base.specs.declared.errors.Error.{Error}
use Rattle.raft_log_replay.specs.Machines.{Batch, DeclinesLater, JoinsLater}
use Rattle.raft_log_replay.specs.Sources.{HoldEach, ReplaysSegment, SegmentRefused}
use Rattle.raft_log_replay.specs.declared.segments.ReadSegments.{ReadSegments}
use Rattle.raft_log_replay.specs.Segments.{all_batches, HasReadSegments, IsChunk, IsRefusedIn, memory, unread, declined, apart}

pub all_append : (xs ys : List (List Batch)) → all_batches (xs ++ ys) ≡ all_batches xs ++ all_batches ys
all_append xs ys = flat_map-append (λ bs. bs) xs ys

module _ {E : Type 0} (holds : ℕ → List Batch → E → Type 0) where
  pub hold_both : (k : ℕ) (bss css : List (List Batch)) (es fs : List E) → HoldEach holds k bss es → HoldEach holds (k + length bss) css fs
      → HoldEach holds k (bss ++ css) (es ++ fs)
  hold_both k [] css [] fs h l = subst (λ n. HoldEach holds n css fs) (omega arith) l
  hold_both k [] css (e ∷ es) fs h l = absurd h
  hold_both k (bs ∷ bss) css [] fs h l = absurd h
  hold_both k (bs ∷ bss) css (e ∷ es) fs h l =
      let next : k + suc (length bss) ≡ suc k + length bss = omega arith in
      (h.0, hold_both (suc k) bss css es fs h.1 (subst (λ n. HoldEach holds n css fs) next l))

  module _ {M : Type 0} (reads : List Batch → M → Type 0) where
    -- nothing is read
    pub read_none : (first : ℕ) (m : M) → reads [] m → HasReadSegments holds reads first first m []
    read_none first m h = record { batches = []; held = tt; all = omega arith; read = h }

    -- one segment more
    pub read_more : (first k : ℕ) (old new : M) (es : List E) (e : E) → HasReadSegments holds reads first k old es
        → ReplaysSegment (holds k) reads old new e → HasReadSegments holds reads first (k + 1) new (es ++ e ∷ [])
    read_more first k old new es e h r =
        let all = h.all in
        let many = length-append h.batches (r.batches ∷ []) in
        record {
          batches = h.batches ++ r.batches ∷ [];
          held = hold_both first h.batches (r.batches ∷ []) es (e ∷ []) h.held (subst (λ n. holds n r.batches e) (sym all) r.held, tt);
          all = omega arith;
          read = subst (λ l. reads l new) (sym (all_append h.batches (r.batches ∷ []) ∙ ap (λ l. all_batches h.batches ++ l) (append-nil r.batches)))
              (r.takes (all_batches h.batches) h.read);
        }

    -- the next segments too
    pub read_both : (first at next : ℕ) (old later new : M) (es fs : List E) → HasReadSegments holds reads first at old es
        → HasReadSegments holds reads at next later fs → JoinsLater reads old later new → HasReadSegments holds reads first next new (es ++ fs)
    read_both first at next old later new es fs h k joins =
        let all = h.all in
        let more = k.all in
        let many = length-append h.batches k.batches in
        record {
          batches = h.batches ++ k.batches;
          held = hold_both first h.batches k.batches es fs h.held (subst (λ n. HoldEach holds n k.batches fs) (sym all) k.held);
          all = omega arith;
          read = subst (λ l. reads l new) (sym (all_append h.batches k.batches)) (joins (all_batches h.batches) (all_batches k.batches) h.read k.read);
        }

    module _ (begins : ℕ → List Batch → Type 0) (refuses : ℕ → Error → Type 0) (declines : List Batch → Error → Type 0) where
      -- the segment behind those that were read is refused
      pub stopped : (first k last : ℕ) (m : M) (es : List E) (e : Error) → k < last → HasReadSegments holds reads first k m es
          → SegmentRefused (refuses k) (begins k) reads declines m e → IsRefusedIn holds begins refuses declines first last e
      stopped first k last m es e lt h (inl r) =
          let all = h.all in
          unread h.batches es h.held (omega arith) (subst (λ n. refuses n e) (sym all) r)
      stopped first k last m es e lt h (inr (inl s)) =
          let all = h.all in
          declined h.batches es h.held (omega arith) s.batches (subst (λ n. begins n s.batches) (sym all) s.begun) [] (all_batches h.batches) refl
          (s.declined (all_batches h.batches) h.read)
      stopped first k last m es e lt h (inr (inr same)) = memory same

      -- what is refused of the next segments is so of all
      pub within : (first at next last : ℕ) (m : M) (es : List E) (e : Error) → next ≤ last → HasReadSegments holds reads first at m es
          → IsRefusedIn holds begins refuses declines at next e → IsRefusedIn holds begins refuses declines first last e
      within first at next last m es e le h (memory same) = memory same
      within first at next last m es e le h (unread bss fs held lt r) =
          let all = h.all in
          let many = length-append h.batches bss in
          let place : at + length bss ≡ first + length (h.batches ++ bss) = omega arith in
          unread (h.batches ++ bss) (es ++ fs) (hold_both first h.batches bss es fs h.held (subst (λ n. HoldEach holds n bss fs) (sym all) held)) (omega arith)
          (subst (λ n. refuses n e) place r)
      within first at next last m es e le h (declined bss fs held lt more begun front read whole d) =
          let all = h.all in
          let many = length-append h.batches bss in
          let place : at + length bss ≡ first + length (h.batches ++ bss) = omega arith in
          declined (h.batches ++ bss) (es ++ fs) (hold_both first h.batches bss es fs h.held (subst (λ n. HoldEach holds n bss fs) (sym all) held)) (omega arith)
          more (subst (λ n. begins n more) place begun) (all_batches h.batches ++ front) read
          (append_assoc (all_batches h.batches) front read ∙ ap (λ l. all_batches h.batches ++ l) whole ∙ sym (all_append h.batches bss)) d
      within first at next last m es e le h (apart bss fs held lt front read whole d) =
          let all = h.all in
          let many = length-append h.batches bss in
          apart (h.batches ++ bss) (es ++ fs) (hold_both first h.batches bss es fs h.held (subst (λ n. HoldEach holds n bss fs) (sym all) held)) (omega arith)
          (all_batches h.batches ++ front) read
          (append_assoc (all_batches h.batches) front read ∙ ap (λ l. all_batches h.batches ++ l) whole ∙ sym (all_append h.batches bss)) d

      -- two machines aren't put together
      pub kept_apart : (first at next last : ℕ) (old later : M) (es fs : List E) (e : Error) → next ≤ last → HasReadSegments holds reads first at old es
          → HasReadSegments holds reads at next later fs → DeclinesLater reads declines old later e → IsRefusedIn holds begins refuses declines first last e
      kept_apart first at next last old later es fs e le h k d =
          let all = h.all in
          let more = k.all in
          let many = length-append h.batches k.batches in
          apart (h.batches ++ k.batches) (es ++ fs) (hold_both first h.batches k.batches es fs h.held (subst (λ n. HoldEach holds n k.batches fs) (sym all) k.held))
          (omega arith) [] (all_batches h.batches ++ all_batches k.batches) (sym (all_append h.batches k.batches))
          (d (all_batches h.batches) (all_batches k.batches) h.read k.read)

-- what comes of a chunk
module _ {M E : Type 0} (holds : ℕ → List Batch → E → Type 0) (reads : List Batch → M → Type 0) (begins : ℕ → List Batch → Type 0) (refuses : ℕ → Error → Type 0)
    (declines : List Batch → Error → Type 0) (first last : ℕ) where
  pub chunk_ok : (r : Result (ReadSegments M E) Error) → IsChunk holds reads begins refuses declines first last r
      → IfOk r (λ done. HasReadSegments holds reads first last done.machine done.endings.items)
  chunk_ok (Ok done) h = h
  chunk_ok (Err e) h = tt

  pub chunk_err : (r : Result (ReadSegments M E) Error) → IsChunk holds reads begins refuses declines first last r
      → IfErr r (IsRefusedIn holds begins refuses declines first last)
  chunk_err (Ok done) h = tt
  chunk_err (Err e) h = h
