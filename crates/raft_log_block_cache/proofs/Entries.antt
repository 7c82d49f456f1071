-- Why an entry isn't read.
use Rattle.std.proofs.Common.{◌≡◌, ◌∙◌, ◌+◌, ◌≤◌, ◌++◌, ℕ, List, [], ◌∷◌, None, Some, ap, arith, drop, drop-drop, inl, inr, length, length-append, refl, sym, subst, take, take-append-drop, take-take}
use Rattle.std.proofs.Math.Seq.{take-append_seam}
use Rattle.std.proofs.lemmas.List.{drop_more, take_more}
use Rattle.std.specs.Prelude.{◌<◌, ◌⊎◌, ◌↔◌, Bool, Err, IfErr, IsTrue, Ok, Option, Result, false, slice_index_or, suc, true, zero}
use Rattle.raft_log_record_base.specs.declared.errors.Error.{Error}
use Rattle.raft_log_record_base.specs.declared.errors.Error.TheVariants as errors
use Rattle.raft_log_record_items.specs.declared.entry.EntryIndex.{EntryIndex}
use Rattle.raft_log_record_items.specs.Message.{Parses}
use Rattle.raft_log_dual_pipes.specs.Pipes.{LogPipes}
use Rattle.raft_log_block_cache.specs.declared.block_cache.BlockCache.{BlockCache}
use Rattle.raft_log_record_base.specs.declared.pipe_log.FileBlockHandle.{FileBlockHandle}
use Rattle.raft_log_block_cache.specs.Blocks.{AreUnread, IsEntryUnread, IsNoEntry, IsUnplaced, KeepsBlock, LosesBlock, ReadsEntries, ReadsEntry, entries_in}
use Rattle.raft_log_block_cache.specs.Stored.{part}

-- what is said of a refused parse is said of its error
pub parse_err : {M : Type 0} (r : Result M Error) (reading : Option M) (Q : Error → Type 0) → Parses r reading
    → ((e : Error) → Parses {M = M} (Err e) reading → Q e) → IfErr r Q
parse_err (Ok m) reading Q is f = tt
parse_err (Err e) reading Q is f = f e is

-- what stood before others stands in front of them
pub front_kept : {A : Type 0} (old more now : List A) → now ≡ old ++ more → take (length old) now ≡ old
front_kept old more now is = ap (take (length old)) is ∙ take-append_seam old more

-- what stands in front of others through one step more
pub kept_through : {A : Type 0} (old got now new : List A) → now ≡ old ++ got → take (length now) new ≡ now → take (length old) new ≡ old
kept_through old got now new is kept =
    let long : length now ≡ length old + length got = ap length is ∙ length-append old got in
    sym (take-take (length old) (length now) new (omega (arith, long))) ∙ ap (take (length old)) kept ∙ front_kept old got now is

-- what is left of a list from a place on, cut in two
pub part_left : {A : Type 0} (xs rest : List A) (done n : ℕ) → rest ≡ drop done xs → drop done xs ≡ take n rest ++ drop (done + n) xs
part_left xs rest done n is = sym is ∙ sym (take-append-drop n rest) ∙ ap (λ l. take n rest ++ l) (ap (drop n) is ∙ drop-drop n done xs)

module _ {M : Type 0} (reading : List ℕ → Option M) (v : LogPipes) where
  -- memory may run out before any of them
  pub none_read : (es : List EntryIndex) (cache : BlockCache) (error : Error) → error ≡ errors.Memory → AreUnread reading v es cache cache error
  none_read [] cache error is = (is, refl)
  none_read (e ∷ es) cache error is = inl (is, refl)

  pub unread_now : (es rest : List EntryIndex) (e : EntryIndex) (old new : BlockCache) (error : Error) → es ≡ e ∷ rest → IsEntryUnread reading v e old new error → AreUnread reading v es old new error
  unread_now es rest e old new error is why = subst (λ l. AreUnread reading v l old new error) (sym is) (inr (inl why))

some_is : {A : Type 0} {x y : A} → Some x ≡ Some y → x ≡ y
some_is e = cc

module _ {M : Type 0} (reading : List ℕ → Option M) (v : LogPipes) where
  -- entries that are read, and others behind them
  pub read_both : (es more : List EntryIndex) (old next last : BlockCache) (ms others : List M) → ReadsEntries reading v es old next ms → ReadsEntries reading v more next last others
      → ReadsEntries reading v (es ++ more) old last (ms ++ others)
  read_both [] more old next last ms others (stays, none) rest =
      subst (λ c. ReadsEntries reading v more c last (ms ++ others)) stays (subst (λ l. ReadsEntries reading v more next last (l ++ others)) (sym none) rest)
  read_both (e ∷ es) more old next last [] others never rest = absurd never
  read_both (e ∷ es) more old next last (m ∷ ms) others (mid, one, first) rest = (mid, one, read_both es more mid next last ms others first rest)

  pub unread_behind : (es more : List EntryIndex) (old next last : BlockCache) (ms : List M) (error : Error) → ReadsEntries reading v es old next ms → AreUnread reading v more next last error
      → AreUnread reading v (es ++ more) old last error
  unread_behind [] more old next last ms error (stays, none) rest = subst (λ c. AreUnread reading v more c last error) stays rest
  unread_behind (e ∷ es) more old next last [] error never rest = absurd never
  unread_behind (e ∷ es) more old next last (m ∷ ms) error (mid, one, first) rest = inr (inr (mid, m, one, unread_behind es more mid next last ms error first rest))

  pub unread_front : (es more : List EntryIndex) (old new : BlockCache) (error : Error) → AreUnread reading v es old new error → AreUnread reading v (es ++ more) old new error
  unread_front [] more old new error (memory, same) = subst (λ c. AreUnread reading v more old c error) (sym same) (none_read reading v more old error memory)
  unread_front (e ∷ es) more old new error (inl memory) = inl memory
  unread_front (e ∷ es) more old new error (inr (inl one)) = inr (inl one)
  unread_front (e ∷ es) more old new error (inr (inr (next, m, one, others))) = inr (inr (next, m, one, unread_front es more next new error others))

  -- a block that is kept stays so as it is read again
  kept_again : (block : FileBlockHandle) (old mid next : BlockCache) → KeepsBlock v block old mid → KeepsBlock v block mid next → KeepsBlock v block old next
  kept_again block old mid next first (there, inl (was, same)) = subst (KeepsBlock v block old) (sym same) first
  kept_again block old mid next first (there, inr (not_kept, stands, good)) = absurd (not_kept first.0)

  entry_again : (e : EntryIndex) (block : FileBlockHandle) (old mid next : BlockCache) (m : M) → e.entries ≡ Some block → KeepsBlock v block old mid
      → ReadsEntry reading v e mid next m → ReadsEntry reading v e old next m
  entry_again e block old mid next m placed kept one =
      let same : one.block ≡ block = some_is (sym one.placed ∙ placed) in
      record {
        block = block;
        placed = placed;
        kept = kept_again block old mid next kept (subst (λ b. KeepsBlock v b mid next) same one.kept);
        inside = one.inside;
        is = one.is;
      }

  -- entries of which the first one's block was read before
  pub read_first : (es rest : List EntryIndex) (e : EntryIndex) (block : FileBlockHandle) (old mid last : BlockCache) (ms : List M) → es ≡ e ∷ rest → e.entries ≡ Some block → KeepsBlock v block old mid
      → ReadsEntries reading v es mid last ms → ReadsEntries reading v es old last ms
  read_first es rest e block old mid last ms is placed kept read =
      subst (λ l. ReadsEntries reading v l old last ms) (sym is) (by ms (subst (λ l. ReadsEntries reading v l mid last ms) is read))
    where
      by : (ms : List M) → ReadsEntries reading v (e ∷ rest) mid last ms → ReadsEntries reading v (e ∷ rest) old last ms
      by [] never = absurd never
      by (m ∷ ms) (next, one, others) = (next, entry_again e block old mid next m placed kept one, others)

  unplaced : (e : EntryIndex) (error : Error) → IsUnplaced e error → e.entries ≡ None
  unplaced e errors.Memory is = is
  unplaced e (errors.InvalidArgument text) is = is
  unplaced e _ is = absurd is

  unread_again : (e : EntryIndex) (block : FileBlockHandle) (old mid last : BlockCache) (error : Error) → e.entries ≡ Some block → KeepsBlock v block old mid
      → IsEntryUnread reading v e mid last error → IsEntryUnread reading v e old last error
  unread_again e block old mid last error placed kept (inl (none, same)) = absurd (clash (sym placed ∙ unplaced e error none))
    where
      clash : Some block ≡ None → ⊥
      clash is = let never : ⊥ = cc in never
  unread_again e block old mid last error placed kept (inr (b, at, inl lost)) =
      let same : b ≡ block = some_is (sym at ∙ placed) in absurd (lost.2 (kept.0 ∙ ap Some (sym same)))
  unread_again e block old mid last error placed kept (inr (b, at, inr (again, why))) =
      let same : b ≡ block = some_is (sym at ∙ placed) in
      inr (block, placed, inr (kept_again block old mid last kept (subst (λ b. KeepsBlock v b mid last) same again), why))

  memory_again : (e : EntryIndex) (block : FileBlockHandle) (old mid last : BlockCache) (error : Error) → e.entries ≡ Some block → KeepsBlock v block old mid → error ≡ errors.Memory → last ≡ mid
      → IsEntryUnread reading v e old last error
  memory_again e block old mid last error placed kept is same =
      subst (λ c. IsEntryUnread reading v e old c error) (sym same)
      (subst (λ x. IsEntryUnread reading v e old mid x) (sym is) (inr (block, placed, inr (kept, inr tt))))

  pub unread_first : (es rest : List EntryIndex) (e : EntryIndex) (block : FileBlockHandle) (old mid last : BlockCache) (error : Error) → es ≡ e ∷ rest → e.entries ≡ Some block → KeepsBlock v block old mid
      → AreUnread reading v es mid last error → AreUnread reading v es old last error
  unread_first es rest e block old mid last error is placed kept unread =
      subst (λ l. AreUnread reading v l old last error) (sym is) (by (subst (λ l. AreUnread reading v l mid last error) is unread))
    where
      by : AreUnread reading v (e ∷ rest) mid last error → AreUnread reading v (e ∷ rest) old last error
      by (inl (memory, same)) = inr (inl (memory_again e block old mid last error placed kept memory same))
      by (inr (inl one)) = inr (inl (unread_again e block old mid last error placed kept one))
      by (inr (inr (next, m, one, others))) = inr (inr (next, m, entry_again e block old mid next m placed kept one, others))

  -- The entries up to one of a list lie in a block that is kept, and were read of it.
  module _ (es : List EntryIndex) (i : ℕ) (d : EntryIndex) (block : FileBlockHandle) (mid : BlockCache) (got : List M) (less : i < length es)
      (placed : (slice_index_or es i d).entries ≡ Some block) (there : mid.place ≡ Some block) (read : ReadsEntries reading v (take i es) mid mid got) where
    pub piece_more : (m : M) (bytes : List ℕ) → (slice_index_or es i d).entry_offset + (slice_index_or es i d).entry_len ≤ entries_in mid
        → bytes ≡ part (slice_index_or es i d).entry_offset (slice_index_or es i d).entry_len mid.bytes.items → reading bytes ≡ Some m
        → ReadsEntries reading v (take (i + 1) es) mid mid (got ++ (m ∷ []))
    piece_more m bytes inside are is =
        let one : ReadsEntry reading v (slice_index_or es i d) mid mid m =
        record { block = block; placed = placed; kept = (there, inl (there, refl)); inside = inside; is = ap reading (sym are) ∙ is } in
        subst (λ l. ReadsEntries reading v l mid mid (got ++ (m ∷ []))) (sym (take_more es i d less))
        (read_both (take i es) (slice_index_or es i d ∷ []) mid mid mid got (m ∷ []) read (mid, one, (refl, refl)))

    -- the next one isn't read
    pub piece_stops : (old : BlockCache) (error : Error) → (slice_index_or es 0 d).entries ≡ Some block → KeepsBlock v block old mid
        → IsNoEntry (slice_index_or es i d).entry_offset (slice_index_or es i d).entry_len mid error
        ⊎ Parses {M = M} (Err error) (reading (part (slice_index_or es i d).entry_offset (slice_index_or es i d).entry_len mid.bytes.items))
        → AreUnread reading v es old mid error
    piece_stops old error first kept why =
        unread_first es (drop 1 es) (slice_index_or es 0 d) block old mid mid error (drop_more es 0 d (omega (arith, less))) first kept
        (subst (λ l. AreUnread reading v l mid mid error) (take-append-drop i es)
        (unread_behind (take i es) (drop i es) mid mid mid got error read
        (unread_now reading v (drop i es) (drop (i + 1) es) (slice_index_or es i d) mid mid error (drop_more es i d less) (inr (block, placed, inr ((there, inl (there, refl)), why))))))

  -- the first of some entries is the first of all
  pub piece_read : (es : List EntryIndex) (i : ℕ) (d : EntryIndex) (block : FileBlockHandle) (old mid : BlockCache) (ms : List M) → 0 < i → 0 < length es → (slice_index_or es 0 d).entries ≡ Some block
      → KeepsBlock v block old mid → ReadsEntries reading v (take i es) mid mid ms → ReadsEntries reading v (take i es) old mid ms
  piece_read [] i d block old mid ms some long first kept read = absurd (omega arith)
  piece_read (x ∷ xs) zero d block old mid ms some long first kept read = absurd (omega arith)
  piece_read (x ∷ xs) (suc i) d block old mid ms some long first kept read = read_first (x ∷ take i xs) (take i xs) x block old mid mid ms refl first kept read

  -- the first entry's block isn't read
  pub block_unread : (es : List EntryIndex) (d : EntryIndex) (block : FileBlockHandle) (old new : BlockCache) (error : Error) → 0 < length es → (slice_index_or es 0 d).entries ≡ Some block
      → LosesBlock v block old new error → AreUnread reading v es old new error
  block_unread [] d block old new error some first lost = absurd (omega arith)
  block_unread (x ∷ xs) d block old new error some first lost = inr (inl (inr (block, first, inl lost)))

-- an entry that lies elsewhere than the first isn't the first
pub some_before : (es : List EntryIndex) (i : ℕ) (d : EntryIndex) (block : FileBlockHandle) (b : Bool) → IsTrue b ↔ ((slice_index_or es i d).entries ≡ Some block) → b ≡ false
    → (slice_index_or es 0 d).entries ≡ Some block → 0 < i
some_before es zero d block b is other first = absurd (let yes : b ≡ true = is.1 first in let never : ⊥ = cc in never)
some_before es (suc i) d block b is other first = omega arith
