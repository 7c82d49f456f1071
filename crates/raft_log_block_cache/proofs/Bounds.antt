-- The entries of a block from each bound up to the next.
use Rattle.std.proofs.Common.{◌≡◌, ◌∙◌, ◌+◌, ◌-◌, ◌≤◌, ◌++◌, ℕ, List, [], ◌∷◌, Some, ap, arith, length, refl, sym, subst, take}
use Rattle.std.proofs.lemmas.List.{take_all}
use Rattle.std.specs.Prelude.{◌<◌, ◌⊎◌, Err, Option, slice_index, slice_index_or, suc, zero}
use Rattle.raft_log_record_base.specs.declared.errors.Error.{Error}
use Rattle.raft_log_record_base.specs.declared.pipe_log.FileBlockHandle.{FileBlockHandle}
use Rattle.raft_log_record_items.specs.declared.entry.EntryIndex.{EntryIndex}
use Rattle.raft_log_record_items.specs.Message.{Parses}
use Rattle.raft_log_extents.specs.Entries.{entries_between, entry_of, place_at}
use Rattle.raft_log_dual_pipes.specs.Pipes.{LogPipes}
use Rattle.raft_log_block_cache.specs.Blocks.{AreUnread, IsNoEntry, KeepsBlock, LosesBlock, ReadsEntries, entries_in}
use Rattle.raft_log_block_cache.specs.Stored.{part}
use Rattle.raft_log_block_cache.specs.declared.block_cache.BlockCache.{BlockCache}
use Rattle.raft_log_block_cache.proofs.Parts.{part_of_front}
use Rattle.raft_log_block_cache.proofs.Entries.{block_unread, piece_more, piece_read, piece_stops}

-- an entry of a block from one bound up to another
record IsBetween (block : FileBlockHandle) (x y : ℕ) (e : EntryIndex) : Type 0 where
  placed : e.entries ≡ Some block
  offset : e.entry_offset ≡ x
  len : e.entry_len ≡ y - x

-- the block is kept, and these are the bytes of its entries
pub record HasEntries (block : FileBlockHandle) (entries : List ℕ) (cache : BlockCache) : Type 0 where
  pub placed : cache.place ≡ Some block
  pub bytes : entries ≡ take (entries_in cache) cache.bytes.items
  pub len : length entries ≡ entries_in cache

-- bytes of these entries are those of the block
pub entries_part : (offset len : ℕ) (block : FileBlockHandle) (bytes entries : List ℕ) (cache : BlockCache) → HasEntries block entries cache → offset + len ≤ length entries → bytes ≡ part offset len entries
    → bytes ≡ part offset len cache.bytes.items
entries_part offset len block bytes entries cache has inside are = are ∙ part_of_front offset len (entries_in cache) cache.bytes.items entries has.bytes inside

entry_is : (block : FileBlockHandle) (n k : ℕ) (xs : List ℕ) (d : EntryIndex) → suc k < length xs → IsBetween block (slice_index xs k) (slice_index xs (suc k)) (slice_index_or (entries_between block n xs) k d)
entry_is block n k [] d less = absurd (omega arith)
entry_is block n k (x ∷ []) d less = absurd (omega arith)
entry_is block n zero (x ∷ (y ∷ ys)) d less = record { placed = refl; offset = refl; len = refl }
entry_is block n (suc k) (x ∷ (y ∷ ys)) d less = entry_is block (n + 1) k (y ∷ ys) d (omega (arith, less))

-- there is one entry fewer than bounds
entries_count : (block : FileBlockHandle) (n : ℕ) (xs : List ℕ) → length (entries_between block n xs) ≡ length xs - 1
entries_count block n [] = omega arith
entries_count block n (x ∷ []) = omega arith
entries_count block n (x ∷ (y ∷ ys)) = let more = entries_count block (n + 1) (y ∷ ys) in omega (arith, more)

-- any entry
no_entry : FileBlockHandle → EntryIndex
no_entry block = entry_of block.id.queue 0 (place_at block)

module _ {M : Type 0} (reading : List ℕ → Option M) (v : LogPipes) (block : FileBlockHandle) (bounds : List ℕ) where
  first_placed : (n : ℕ) → 1 < length bounds → (slice_index_or (entries_between block n bounds) 0 (no_entry block)).entries ≡ Some block
  first_placed n some = (entry_is block n 0 bounds (no_entry block) (omega (arith, some))).placed

  -- the block isn't read
  pub between_lost : (n : ℕ) (old new : BlockCache) (error : Error) → 1 < length bounds → LosesBlock v block old new error → AreUnread reading v (entries_between block n bounds) old new error
  between_lost n old new error some lost =
      let count = entries_count block n bounds in
      block_unread reading v (entries_between block n bounds) (no_entry block) block old new error (omega (arith, count, some)) (first_placed n some) lost

  -- all were read of the block that is kept
  pub between_read : (n : ℕ) (i : ℕ) (old mid : BlockCache) (got : List M) → 1 < length bounds → i + 1 ≡ length bounds → KeepsBlock v block old mid
      → ReadsEntries reading v (take i (entries_between block n bounds)) mid mid got → ReadsEntries reading v (entries_between block n bounds) old mid got
  between_read n i old mid got some all kept read =
      let es = entries_between block n bounds in
      let count = entries_count block n bounds in
      subst (λ l. ReadsEntries reading v l old mid got) (take_all i es (omega (arith, count, all)))
      (piece_read reading v es i (no_entry block) block old mid got (omega (arith, some, all)) (omega (arith, count, some)) (first_placed n some) kept read)

  -- So many entries were read of the block that is kept; the next one starts and ends there.
  module _ (i : ℕ) (mid : BlockCache) (got : List M) (less : i + 1 < length bounds) (there : mid.place ≡ Some block) (start end : ℕ) (from : start ≡ slice_index bounds i)
      (to : end ≡ slice_index bounds (i + 1)) (read : (n : ℕ) → ReadsEntries reading v (take i (entries_between block n bounds)) mid mid got) where
    this : (n : ℕ) → IsBetween block start end (slice_index_or (entries_between block n bounds) i (no_entry block))
    this n =
        let next : suc i ≡ i + 1 = omega arith in
        let e = slice_index_or (entries_between block n bounds) i (no_entry block) in
        subst (λ k. IsBetween block k end e) (sym from)
        (subst (λ k. IsBetween block (slice_index bounds i) k e) (ap (slice_index bounds) next ∙ sym to) (entry_is block n i bounds (no_entry block) (omega (arith, less))))

    pub between_more : (m : M) (bytes : List ℕ) → start + (end - start) ≤ entries_in mid → bytes ≡ part start (end - start) mid.bytes.items → reading bytes ≡ Some m
        → (n : ℕ) → ReadsEntries reading v (take (i + 1) (entries_between block n bounds)) mid mid (got ++ (m ∷ []))
    between_more m bytes inside are is n =
        let es = entries_between block n bounds in
        let e = slice_index_or es i (no_entry block) in
        let at = this n in
        let count = entries_count block n bounds in
        let offset : e.entry_offset ≡ start = at.offset in
        let long : e.entry_len ≡ end - start = at.len in
        piece_more reading v es i (no_entry block) block mid got (omega (arith, count, less)) at.placed there (read n) m bytes
        (omega (arith, offset, long, inside))
        (are ∙ sym (ap (λ k. part e.entry_offset k mid.bytes.items) long ∙ ap (λ k. part k (end - start) mid.bytes.items) offset))
        is

    -- the next one isn't read
    pub between_stops : (n : ℕ) (old : BlockCache) (error : Error) → KeepsBlock v block old mid
        → IsNoEntry start (end - start) mid error ⊎ Parses {M = M} (Err error) (reading (part start (end - start) mid.bytes.items))
        → AreUnread reading v (entries_between block n bounds) old mid error
    between_stops n old error kept why =
        let es = entries_between block n bounds in
        let e = slice_index_or es i (no_entry block) in
        let at = this n in
        let count = entries_count block n bounds in
        let Why = λ (offset len : ℕ). IsNoEntry offset len mid error ⊎ Parses {M = M} (Err error) (reading (part offset len mid.bytes.items)) in
        piece_stops reading v es i (no_entry block) block mid got (omega (arith, count, less)) at.placed there (read n) old error (first_placed n (omega (arith, less))) kept
        (subst (λ k. Why e.entry_offset k) (sym at.len) (subst (λ k. Why k (end - start)) (sym at.offset) why))
