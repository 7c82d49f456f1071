-- Batches that are written, and batches that become one.
use Rattle.std.proofs.Common.{◌≡◌, ℕ, ◌+◌, ◌-◌, ◌<◌, ◌≤◌, List, [], ◌∷◌, ◌++◌, length, take, drop, min, map, Bool, eqb, cond, refl, sym, ap, subst, ◌∙◌, arith}
use Rattle.std.proofs.Math.Dec.{eqb-suc-zero}
use Rattle.std.proofs.Math.Seq.{take-length, take-add}
use Rattle.std.proofs.lemmas.List.{length-append, length-take-le, length-drop, take_at, drop_at}
use Rattle.std.proofs.lemmas.List.Sums.{sum_by-cons}
use Rattle.raft_log_record_checksum.specs.Checksum.{crc32_of}
use Rattle.raft_log_record_base.specs.Number.{u32_le_bytes}
use Rattle.raft_log_record_base.specs.declared.pipe_log.FileBlockHandle.{FileBlockHandle}
use Rattle.raft_log_record_items.specs.declared.entry.EntryIndex.{EntryIndex}
use Rattle.raft_log_record_items.specs.declared.item.LogItemContent.{LogItemContent}
use Rattle.raft_log_record_items.specs.declared.item.LogItemContent.TheVariants as contents
use Rattle.raft_log_record_items.specs.declared.item.LogItem.{LogItem}
use Rattle.raft_log_record_items.specs.Placed.{run_len, content_len, entries_len, laid_run, laid_content, laid_out, written_entry, written_content, written_item, written}
use Rattle.raft_log_record_batches.specs.declared.log_batch.BatchState.{BatchState}
use Rattle.raft_log_record_batches.specs.declared.log_batch.BatchState.TheVariants.{Filling, Written}
use Rattle.raft_log_record_frames.specs.Record.{block_bytes}
use Rattle.raft_log_record_batches.specs.Batch.{IsBatch, max_entries_len, batch_size, roomy}
use Rattle.raft_log_record_frames.specs.ItemBatch.{items_size}
use Rattle.raft_log_record_frames.proofs.Public.{four_bytes}
use Rattle.raft_log_record_batches.proofs.Buffer.{all_entries, in_filling, roomy_same}
use Rattle.raft_log_record_batches.proofs.Items.{run_len-laid, laid_twice, filling_size, more_bytes, items_added}

-- ---- written items have the same bytes, and lie where they lay

run_len-written : (handle : FileBlockHandle) (es : List EntryIndex) → run_len (map (written_entry handle) es) ≡ run_len es
run_len-written handle [] = refl
run_len-written handle (e ∷ es) =
    let f : EntryIndex → ℕ = λ (x : EntryIndex). x.entry_len in
    sum_by-cons f (written_entry handle e) (map (written_entry handle) es) ∙ ap (λ (n : ℕ). e.entry_len + n) (run_len-written handle es) ∙ sym (sum_by-cons f e es)

content_len-written : (handle : FileBlockHandle) (c : LogItemContent) → content_len (written_content handle c) ≡ content_len c
content_len-written handle (contents.EntryIndexes es) = run_len-written handle es
content_len-written handle (contents.Command c) = refl
content_len-written handle (contents.Kv kv) = refl

entries_len-written : (handle : FileBlockHandle) (xs : List LogItem) → entries_len (written handle xs) ≡ entries_len xs
entries_len-written handle [] = refl
entries_len-written handle (x ∷ xs) =
    let f : LogItem → ℕ = λ (y : LogItem). content_len y.content in
    sum_by-cons f (written_item handle x) (written handle xs) ∙ ap (λ (n : ℕ). n + entries_len (written handle xs)) (content_len-written handle x.content)
    ∙ ap (λ (n : ℕ). content_len x.content + n) (entries_len-written handle xs) ∙ sym (sum_by-cons f x xs)

laid_run-written : (handle : FileBlockHandle) (offset : ℕ) (es : List EntryIndex) → laid_run offset (map (written_entry handle) es) ≡ map (written_entry handle) (laid_run offset es)
laid_run-written handle offset [] = refl
laid_run-written handle offset (e ∷ es) = ap (λ (l : List EntryIndex). written_entry handle (record e { entry_offset = offset }) ∷ l) (laid_run-written handle (offset + e.entry_len) es)

laid_content-written : (handle : FileBlockHandle) (offset : ℕ) (c : LogItemContent) → laid_content offset (written_content handle c) ≡ written_content handle (laid_content offset c)
laid_content-written handle offset (contents.EntryIndexes es) = ap (λ (l : List EntryIndex). contents.EntryIndexes l) (laid_run-written handle offset es)
laid_content-written handle offset (contents.Command c) = refl
laid_content-written handle offset (contents.Kv kv) = refl

laid_out-written : (handle : FileBlockHandle) (offset : ℕ) (xs : List LogItem) → laid_out offset (written handle xs) ≡ written handle (laid_out offset xs)
laid_out-written handle offset [] = refl
laid_out-written handle offset (x ∷ xs) =
    ap (λ (c : LogItemContent). record x { content = c } ∷ laid_out (offset + content_len (written_content handle x.content)) (written handle xs)) (laid_content-written handle offset x.content)
    ∙ ap (λ (n : ℕ). record x { content = written_content handle (laid_content offset x.content) } ∷ laid_out (offset + n) (written handle xs)) (content_len-written handle x.content)
    ∙ ap (λ (l : List LogItem). record x { content = written_content handle (laid_content offset x.content) } ∷ l) (laid_out-written handle (offset + content_len x.content) xs)

pub written_batch : (state : BatchState) (buffer : List ℕ) (len sum : ℕ) (items : List LogItem) (handle : FileBlockHandle) → IsBatch state buffer len sum items → IsBatch Written buffer len sum (written handle items)
written_batch state buffer len sum items handle h = record {
  room = h.room;
  fits = h.fits;
  adds = entries_len-written handle items ∙ h.adds;
  laid = laid_out-written handle 0 items ∙ ap (λ (l : List LogItem). written handle l) h.laid;
  holds = tt;
}

-- ---- the length of a block

pub block_size : (entries : List ℕ) → cond (eqb (length entries) 0) 0 (length entries + 4) ≡ length (block_bytes entries)
unfolding block_bytes
block_size [] = refl
block_size (b ∷ bs) =
    let whole : length ((b ∷ bs) ++ u32_le_bytes (crc32_of (b ∷ bs))) ≡ length (b ∷ bs) + 4 = length-append (b ∷ bs) (u32_le_bytes (crc32_of (b ∷ bs))) ∙ ap (λ (n : ℕ). length (b ∷ bs) + n) (four_bytes (crc32_of (b ∷ bs))) in
    ap (λ (t : Bool). cond t 0 (length (b ∷ bs) + 4)) (eqb-suc-zero (length bs)) ∙ sym whole

pub block_size_at : (entries : List ℕ) (n size : ℕ) → length entries ≡ n → size ≡ cond (eqb n 0) 0 (n + 4) → size ≡ length (block_bytes entries)
block_size_at entries n size e s = s ∙ ap (λ (k : ℕ). cond (eqb k 0) 0 (k + 4)) (sym e) ∙ block_size entries

pub entries_count : (buffer : List ℕ) (len : ℕ) → 16 + len ≤ length buffer → length (take len (drop 16 buffer)) ≡ len
entries_count buffer len room = length-take-le len (drop 16 buffer) (omega (arith, length-drop 16 buffer))

pub some_size : (items : List LogItem) (entries : List ℕ) → 0 < length items → batch_size items entries ≡ 28 + length (block_bytes entries) + items_size items
some_size [] entries some = absurd (omega arith)
some_size (x ∷ xs) entries some = refl

-- ---- two batches

laid_content-twice : (offset : ℕ) (c : LogItemContent) → laid_content offset (laid_content offset c) ≡ laid_content offset c
laid_content-twice offset (contents.EntryIndexes es) = ap (λ (l : List EntryIndex). contents.EntryIndexes l) (laid_twice offset es)
laid_content-twice offset (contents.Command c) = refl
laid_content-twice offset (contents.Kv kv) = refl

content_len-laid : (offset : ℕ) (c : LogItemContent) → content_len (laid_content offset c) ≡ content_len c
content_len-laid offset (contents.EntryIndexes es) = run_len-laid offset es
content_len-laid offset (contents.Command c) = refl
content_len-laid offset (contents.Kv kv) = refl

laid_out-twice : (offset : ℕ) (xs : List LogItem) → laid_out offset (laid_out offset xs) ≡ laid_out offset xs
laid_out-twice offset [] = refl
laid_out-twice offset (x ∷ xs) =
    ap (λ (c : LogItemContent). record x { content = c } ∷ laid_out (offset + content_len (laid_content offset x.content)) (laid_out (offset + content_len x.content) xs)) (laid_content-twice offset x.content)
    ∙ ap (λ (n : ℕ). record x { content = laid_content offset x.content } ∷ laid_out (offset + n) (laid_out (offset + content_len x.content) xs)) (content_len-laid offset x.content)
    ∙ ap (λ (l : List LogItem). record x { content = laid_content offset x.content } ∷ l) (laid_out-twice (offset + content_len x.content) xs)

entries_len-laid : (offset : ℕ) (xs : List LogItem) → entries_len (laid_out offset xs) ≡ entries_len xs
entries_len-laid offset [] = refl
entries_len-laid offset (x ∷ xs) =
    let f : LogItem → ℕ = λ (y : LogItem). content_len y.content in
    sum_by-cons f (record x { content = laid_content offset x.content }) (laid_out (offset + content_len x.content) xs)
    ∙ ap (λ (n : ℕ). n + entries_len (laid_out (offset + content_len x.content) xs)) (content_len-laid offset x.content)
    ∙ ap (λ (n : ℕ). content_len x.content + n) (entries_len-laid (offset + content_len x.content) xs) ∙ sym (sum_by-cons f x xs)

pub behind_header : (buffer : List ℕ) (n : ℕ) → take (length buffer - n) (drop n buffer) ≡ drop n buffer
behind_header buffer n = ap (λ (k : ℕ). take k (drop n buffer)) (sym (length-drop n buffer)) ∙ take-length (drop n buffer)

-- the other items lie behind the first ones
pub moved_items : (items other : List LogItem) (first offset : ℕ) → first ≡ length items → take first (items ++ other) ++ laid_out offset (drop first (items ++ other)) ≡ items ++ laid_out offset other
moved_items items other first offset e =
    ap (λ (l : List LogItem). l ++ laid_out offset (drop first (items ++ other))) (take_at items other first (sym e)) ∙ ap (λ (l : List LogItem). items ++ laid_out offset l) (drop_at items other first (sym e))

pub merged : (state state' : BatchState) (buffer buffer' new : List ℕ) (len len' sum sum' : ℕ) (items items' : List LogItem) → state ≡ Filling → state' ≡ Filling → len + len' ≤ max_entries_len → new ≡ buffer ++ drop 16 buffer'
    → IsBatch state buffer len sum items → IsBatch state' buffer' len' sum' items' → IsBatch state (roomy new) (len + len') sum (items ++ laid_out len items')
merged state state' buffer buffer' new len len' sum sum' items items' e e' fits grown h h' =
    let size : length buffer' ≡ 16 + len' = filling_size state' buffer' len' sum' items' e' h' in
    let count : length (drop 16 buffer') ≡ len' = omega (arith, length-drop 16 buffer', size) in
    let there : 1 ≤ length new = omega (arith, ap (λ (l : List ℕ). length l) grown, length-append buffer (drop 16 buffer'), filling_size state buffer len sum items e h) in
    subst (λ (l : List ℕ). IsBatch state l (len + len') sum (items ++ laid_out len items')) (sym (roomy_same new there ∙ grown))
    (items_added state buffer (drop 16 buffer') len len' sum items (laid_out len items') e count fits (entries_len-laid len items' ∙ h'.adds) (laid_out-twice len items') h)

pub merged_seen : (state state' : BatchState) (buffer buffer' new : List ℕ) (len len' sum sum' : ℕ) (items items' : List LogItem) → state ≡ Filling → state' ≡ Filling → new ≡ buffer ++ drop 16 buffer'
    → IsBatch state buffer len sum items → IsBatch state' buffer' len' sum' items' → take (len + len') (drop 16 (roomy new)) ≡ take len (drop 16 buffer) ++ take len' (drop 16 buffer')
merged_seen state state' buffer buffer' new len len' sum sum' items items' e e' grown h h' =
    let size : length buffer ≡ 16 + len = filling_size state buffer len sum items e h in
    let size' : length buffer' ≡ 16 + len' = filling_size state' buffer' len' sum' items' e' h' in
    let count : length (drop 16 buffer') ≡ len' = omega (arith, length-drop 16 buffer', size') in
    let all : take len' (drop 16 buffer') ≡ drop 16 buffer' = all_entries len' buffer' h'.room (in_filling state' buffer' sum' items' (take len' (drop 16 buffer')) e' h'.holds) in
    let there : 1 ≤ length new = omega (arith, ap (λ (l : List ℕ). length l) grown, length-append buffer (drop 16 buffer'), size) in
    ap (λ (l : List ℕ). take (len + len') (drop 16 l)) (roomy_same new there ∙ grown) ∙ more_bytes buffer (drop 16 buffer') len len' size count ∙ ap (λ (l : List ℕ). take len (drop 16 buffer) ++ l) (sym all)

-- the bytes behind the header of a buffer, which may have no header yet
pub behind_room : (buffer : List ℕ) (n : ℕ) → n ≡ min 16 (length buffer) → 16 ≤ length (roomy buffer) → drop n buffer ≡ drop 16 (roomy buffer)
behind_room [] n e room = let none : n ≡ 0 = omega (arith, e) in rw none refl
behind_room (b ∷ bs) n e room = let all : n ≡ 16 = omega (arith, e, room) in ap (λ (k : ℕ). drop k (b ∷ bs)) all

-- the entries' bytes stand in a buffer without what stood behind them
pub kept_entries : (buffer : List ℕ) (len : ℕ) → 16 + len ≤ length buffer → take len (drop 16 (take (16 + len) buffer)) ≡ take len (drop 16 buffer)
kept_entries buffer len room =
    let head : length (take 16 buffer) ≡ 16 = length-take-le 16 buffer (omega arith) in
    let front : take (16 + len) buffer ≡ take 16 buffer ++ take len (drop 16 buffer) = take-add 16 len buffer in
    let size : length (take len (drop 16 buffer)) ≡ len = entries_count buffer len room in
    ap (λ (l : List ℕ). take len (drop 16 l)) front ∙ ap (λ (l : List ℕ). take len l) (drop_at (take 16 buffer) (take len (drop 16 buffer)) 16 head)
    ∙ ap (λ (n : ℕ). take n (take len (drop 16 buffer))) (sym size) ∙ take-length (take len (drop 16 buffer))
