-- The bytes that stand at the places of entries.
use Rattle.std.proofs.Common.{◌≡◌, ℕ, suc, ◌+◌, ◌-◌, ◌≤◌, List, [], ◌∷◌, ◌++◌, length, take, drop, map, inl, inr, refl, sym, ap, subst, ◌∙◌, arith}
use Rattle.std.proofs.lemmas.List.{drop-drop, map-append, length-append, append-nil, take-append-le, drop-append-le, length-drop, take_at, drop_at}
use Rattle.std.proofs.lemmas.List.Sums.{sum_by-cons, sum_by-append}
use Rattle.std.proofs.lemmas.List.Concat.{flat_map-append}
use Rattle.raft_log_record_base.specs.declared.pipe_log.FileBlockHandle.{FileBlockHandle}
use Rattle.raft_log_record_items.specs.declared.entry.EntryIndex.{EntryIndex}
use Rattle.raft_log_record_items.specs.declared.item.LogItemContent.{LogItemContent}
use Rattle.raft_log_record_items.specs.declared.item.LogItemContent.TheVariants as contents
use Rattle.raft_log_record_items.specs.declared.item.LogItem.{LogItem}
use Rattle.raft_log_record_items.specs.Run.{unplaced}
use Rattle.raft_log_record_items.specs.Placed.{run_len, content_len, entries_len, laid_run, laid_content, laid_out, written_entry, written_content, written}
use Rattle.raft_log_record_items.specs.Writing.{plain_content, plain_item}
use Rattle.raft_log_record_frames.specs.Record.{block_bytes}
use Rattle.raft_log_record_base.specs.Number.{u32_le_bytes}
use Rattle.raft_log_record_checksum.specs.Checksum.{crc32_of}
use Rattle.raft_log_record_frames.proofs.Public.{all_entries-written, all_lie_in, block_more, four_bytes, run_len-cons}
use Rattle.raft_log_record_frames.specs.ItemBatch.{content_entries, all_entries, AllLieIn}
use Rattle.raft_log_record_batches.specs.declared.log_batch.BatchState.{BatchState}
use Rattle.raft_log_record_batches.specs.Batch.{Batch, IsBatch, Becomes, with_batch, written_at, block_place}
use Rattle.raft_log_record_batches.specs.Entries.{AddsEntries, entries_of, joined}
use Rattle.raft_log_record_batches.specs.Places.{entry_bytes, bytes_of_each, AddsBytes, HasBytesInBlock, ReadHasWhatWasAdded}
use Rattle.raft_log_record_batches.proofs.Moves.{entries_count}

-- ---- bytes cut by the lengths of entries

abbrev pub parts : List EntryIndex → List ℕ → List (List ℕ)
parts [] bytes = []
parts (e ∷ es) bytes = take e.entry_len bytes ∷ parts es (drop e.entry_len bytes)

parts-append : (es fs : List EntryIndex) (bytes : List ℕ) → parts (es ++ fs) bytes ≡ parts es bytes ++ parts fs (drop (run_len es) bytes)
parts-append [] fs bytes = refl
parts-append (e ∷ es) fs bytes =
    ap (λ (l : List (List ℕ)). take e.entry_len bytes ∷ l) (parts-append es fs (drop e.entry_len bytes))
    ∙ ap (λ (l : List ℕ). (take e.entry_len bytes ∷ parts es (drop e.entry_len bytes)) ++ parts fs l) (drop-drop (run_len es) e.entry_len bytes ∙ ap (λ (n : ℕ). drop n bytes) (sym (run_len-cons e es)))

-- what stands behind the bytes of the entries doesn't matter
parts-front : (es : List EntryIndex) (bytes more : List ℕ) → run_len es ≤ length bytes → parts es (bytes ++ more) ≡ parts es bytes
parts-front [] bytes more h = refl
parts-front (e ∷ es) bytes more h =
    let whole = run_len-cons e es in
    let here : e.entry_len ≤ length bytes = omega (arith, whole) in
    let rest : run_len es ≤ length (drop e.entry_len bytes) = omega (arith, whole, length-drop e.entry_len bytes) in
    ap (λ (l : List ℕ). l ∷ parts es (drop e.entry_len (bytes ++ more))) (take-append-le e.entry_len bytes more here)
    ∙ ap (λ (l : List ℕ). take e.entry_len bytes ∷ parts es l) (drop-append-le e.entry_len bytes more here)
    ∙ ap (λ (l : List (List ℕ)). take e.entry_len bytes ∷ l) (parts-front es (drop e.entry_len bytes) more rest)

parts-unplaced : (es : List EntryIndex) (bytes : List ℕ) → parts (map unplaced es) bytes ≡ parts es bytes
parts-unplaced [] bytes = refl
parts-unplaced (e ∷ es) bytes = ap (λ (l : List (List ℕ)). take e.entry_len bytes ∷ l) (parts-unplaced es (drop e.entry_len bytes))

-- ---- laid out entries have these parts

run_parts : (offset : ℕ) (es : List EntryIndex) (bytes : List ℕ) → map (entry_bytes bytes) (laid_run offset es) ≡ parts es (drop offset bytes)
run_parts offset [] bytes = refl
run_parts offset (e ∷ es) bytes =
    ap (λ (l : List (List ℕ)). take e.entry_len (drop offset bytes) ∷ l) (run_parts (offset + e.entry_len) es bytes)
    ∙ ap (λ (l : List ℕ). take e.entry_len (drop offset bytes) ∷ parts es l) (sym (drop-drop e.entry_len offset bytes))

content_parts : (offset : ℕ) (c : LogItemContent) (bytes : List ℕ) → map (entry_bytes bytes) (content_entries (laid_content offset c)) ≡ parts (content_entries c) (drop offset bytes)
content_parts offset (contents.EntryIndexes es) bytes = run_parts offset es bytes
content_parts offset (contents.Command c) bytes = refl
content_parts offset (contents.Kv kv) bytes = refl

content_run : (c : LogItemContent) → run_len (content_entries c) ≡ content_len c
content_run (contents.EntryIndexes es) = refl
content_run (contents.Command c) = refl
content_run (contents.Kv kv) = refl

item_parts : (offset : ℕ) (items : List LogItem) (bytes : List ℕ) → bytes_of_each (laid_out offset items) bytes ≡ parts (all_entries items) (drop offset bytes)
item_parts offset [] bytes = refl
item_parts offset (x ∷ xs) bytes =
    let next : ℕ = offset + content_len x.content in
    map-append (entry_bytes bytes) (content_entries (laid_content offset x.content)) (all_entries (laid_out next xs))
    ∙ ap (λ (l : List (List ℕ)). l ++ bytes_of_each (laid_out next xs) bytes) (content_parts offset x.content bytes)
    ∙ ap (λ (l : List (List ℕ)). parts (content_entries x.content) (drop offset bytes) ++ l) (item_parts next xs bytes)
    ∙ ap (λ (l : List ℕ). parts (content_entries x.content) (drop offset bytes) ++ parts (all_entries xs) l)
    (sym (drop-drop (content_len x.content) offset bytes) ∙ ap (λ (n : ℕ). drop n (drop offset bytes)) (sym (content_run x.content)))
    ∙ sym (parts-append (content_entries x.content) (all_entries xs) (drop offset bytes))

run_len-all : (items : List LogItem) → run_len (all_entries items) ≡ entries_len items
run_len-all [] = refl
run_len-all (x ∷ xs) =
    sum_by-append (λ (e : EntryIndex). e.entry_len) (content_entries x.content) (all_entries xs)
    ∙ ap (λ (n : ℕ). n + run_len (all_entries xs)) (content_run x.content) ∙ ap (λ (n : ℕ). content_len x.content + n) (run_len-all xs)
    ∙ sym (sum_by-cons (λ (y : LogItem). content_len y.content) x xs)

-- items that are laid out from the front on
laid_parts : (items : List LogItem) (bytes : List ℕ) → laid_out 0 items ≡ items → bytes_of_each items bytes ≡ parts (all_entries items) bytes
laid_parts items bytes h = ap (λ (l : List LogItem). bytes_of_each l bytes) (sym h) ∙ item_parts 0 items bytes

-- the bytes of each entry, where more bytes stand behind those of the entries
pub more_behind : (items : List LogItem) (bytes more : List ℕ) → laid_out 0 items ≡ items → entries_len items ≡ length bytes → bytes_of_each items (bytes ++ more) ≡ bytes_of_each items bytes
more_behind items bytes more laid adds =
    laid_parts items (bytes ++ more) laid ∙ parts-front (all_entries items) bytes more (omega (arith, run_len-all items, adds)) ∙ sym (laid_parts items bytes laid)

-- ---- more items

all_entries-append : (items others : List LogItem) → all_entries (items ++ others) ≡ all_entries items ++ all_entries others
all_entries-append items others = flat_map-append (λ (x : LogItem). content_entries x.content) items others

behind : (items others : List LogItem) (bytes more : List ℕ) → laid_out 0 items ≡ items → entries_len items ≡ length bytes
    → bytes_of_each (items ++ laid_out (length bytes) others) (bytes ++ more) ≡ bytes_of_each items bytes ++ parts (all_entries others) more
behind items others bytes more laid adds =
    ap (λ (l : List EntryIndex). map (entry_bytes (bytes ++ more)) l) (all_entries-append items (laid_out (length bytes) others))
    ∙ map-append (entry_bytes (bytes ++ more)) (all_entries items) (all_entries (laid_out (length bytes) others))
    ∙ ap (λ (l : List (List ℕ)). l ++ bytes_of_each (laid_out (length bytes) others) (bytes ++ more)) (more_behind items bytes more laid adds)
    ∙ ap (λ (l : List (List ℕ)). bytes_of_each items bytes ++ l) (item_parts (length bytes) others (bytes ++ more))
    ∙ ap (λ (l : List ℕ). bytes_of_each items bytes ++ parts (all_entries others) l) (drop_at bytes more (length bytes) refl)

pub merged_bytes : (items others : List LogItem) (bytes more : List ℕ) → laid_out 0 items ≡ items → entries_len items ≡ length bytes → laid_out 0 others ≡ others
    → bytes_of_each (items ++ laid_out (length bytes) others) (bytes ++ more) ≡ bytes_of_each items bytes ++ bytes_of_each others more
merged_bytes items others bytes more laid adds laid' =
    behind items others bytes more laid adds ∙ ap (λ (l : List (List ℕ)). bytes_of_each items bytes ++ l) (sym (laid_parts others more laid'))

entry_parts : (is : List ℕ) (bs : List (List ℕ)) → length is ≡ length bs → parts (entries_of is bs) (joined bs) ≡ bs
entry_parts [] [] h = refl
entry_parts [] (b ∷ bs) h = absurd (omega arith)
entry_parts (i ∷ is) [] h = absurd (omega arith)
entry_parts (i ∷ is) (b ∷ bs) h =
    ap (λ (l : List ℕ). l ∷ parts (entries_of is bs) (drop (length b) (b ++ joined bs))) (take_at b (joined bs) (length b) refl)
    ∙ ap (λ (l : List ℕ). b ∷ parts (entries_of is bs) l) (drop_at b (joined bs) (length b) refl)
    ∙ ap (λ (l : List (List ℕ)). b ∷ l) (entry_parts is bs (omega arith))

-- entries that were added have their bytes behind those that were there
pub added_bytes : (old new : Batch) (group : ℕ) (is : List ℕ) (bs : List (List ℕ)) → laid_out 0 old.items ≡ old.items → entries_len old.items ≡ length old.entries → length is ≡ length bs
    → AddsEntries old new group is bs → AddsBytes old new bs
added_bytes old new group is [] laid adds same h =
    let now : new.items ≡ old.items = ap (λ (b : Batch). b.items) h.0 ∙ append-nil old.items in
    let bytes : new.entries ≡ old.entries = ap (λ (b : Batch). b.entries) h.0 ∙ append-nil old.entries in
    ap (λ (l : List LogItem). bytes_of_each l new.entries) now ∙ ap (λ (l : List ℕ). bytes_of_each old.items l) bytes ∙ sym (append-nil (bytes_of_each old.items old.entries))
added_bytes old new group is (b ∷ bs) laid adds same h =
    let all : List (List ℕ) = b ∷ bs in
    let item : LogItem = record { raft_group_id = group; content = contents.EntryIndexes (entries_of is all) } in
    let now : new.items ≡ old.items ++ laid_out (length old.entries) (item ∷ []) = ap (λ (x : Batch). x.items) h.0 in
    let bytes : new.entries ≡ old.entries ++ joined all = ap (λ (x : Batch). x.entries) h.0 in
    ap (λ (l : List LogItem). bytes_of_each l new.entries) now ∙ ap (λ (l : List ℕ). bytes_of_each (old.items ++ laid_out (length old.entries) (item ∷ [])) l) bytes
    ∙ behind old.items (item ∷ []) old.entries (joined all) laid adds
    ∙ ap (λ (l : List EntryIndex). bytes_of_each old.items old.entries ++ parts l (joined all)) (append-nil (entries_of is all))
    ∙ ap (λ (l : List (List ℕ)). bytes_of_each old.items old.entries ++ l) (entry_parts is all same)

-- what a batch's fields say of what callers see
pub view_laid : (state : BatchState) (buffer : List ℕ) (len sum capacity had : ℕ) (items : List LogItem) (b : Batch) → record { state = state; items = items; entries = take len (drop 16 buffer); capacity = capacity; buffer = had } ≡ b
    → IsBatch state buffer len sum items → (laid_out 0 b.items ≡ b.items) × (entries_len b.items ≡ length b.entries)
view_laid state buffer len sum capacity had items b e h =
    subst (λ (x : Batch). (laid_out 0 x.items ≡ x.items) × (entries_len x.items ≡ length x.entries)) e
    (h.laid, h.adds ∙ sym (entries_count buffer len h.room))

-- ---- items that are written, and read

extents-written : (handle : FileBlockHandle) (es : List EntryIndex) (bytes : List ℕ) → map (entry_bytes bytes) (map (written_entry handle) es) ≡ map (entry_bytes bytes) es
extents-written handle [] bytes = refl
extents-written handle (e ∷ es) bytes = ap (λ (l : List (List ℕ)). entry_bytes bytes e ∷ l) (extents-written handle es bytes)

bytes-written : (handle : FileBlockHandle) (items : List LogItem) (bytes : List ℕ) → bytes_of_each (written handle items) bytes ≡ bytes_of_each items bytes
bytes-written handle items bytes = ap (λ (l : List EntryIndex). map (entry_bytes bytes) l) (all_entries-written handle items) ∙ extents-written handle (all_entries items) bytes

in_block : (items : List LogItem) (entries : List ℕ) → laid_out 0 items ≡ items → entries_len items ≡ length entries → bytes_of_each items (block_bytes entries) ≡ bytes_of_each items entries
in_block items entries laid adds =
    let more = block_more entries in
    ap (λ (l : List ℕ). bytes_of_each items l) more.1 ∙ more_behind items entries more.0 laid adds

pub written_bytes : (handle : FileBlockHandle) (items : List LogItem) (entries : List ℕ) → laid_out 0 items ≡ items → entries_len items ≡ length entries
    → bytes_of_each (written handle items) (block_bytes entries) ≡ bytes_of_each items entries
written_bytes handle items entries laid adds = bytes-written handle items (block_bytes entries) ∙ in_block items entries laid adds

content-plain : (c : LogItemContent) → content_entries (plain_content c) ≡ map unplaced (content_entries c)
content-plain (contents.EntryIndexes es) = refl
content-plain (contents.Command c) = refl
content-plain (contents.Kv kv) = refl

all_entries-plain : (items : List LogItem) → all_entries (map plain_item items) ≡ map unplaced (all_entries items)
all_entries-plain [] = refl
all_entries-plain (x ∷ xs) =
    ap (λ (l : List EntryIndex). l ++ all_entries (map plain_item xs)) (content-plain x.content)
    ∙ ap (λ (l : List EntryIndex). map unplaced (content_entries x.content) ++ l) (all_entries-plain xs)
    ∙ sym (map-append unplaced (content_entries x.content) (all_entries xs))

pub read_has_what_was_added : ReadHasWhatWasAdded
read_has_what_was_added items entries handle laid adds =
    let block : List ℕ = block_bytes entries in
    bytes-written handle (laid_out 0 (map plain_item items)) block ∙ item_parts 0 (map plain_item items) block
    ∙ ap (λ (l : List EntryIndex). parts l block) (all_entries-plain items) ∙ parts-unplaced (all_entries items) block
    ∙ sym (laid_parts items block laid) ∙ in_block items entries laid adds

-- a batch that took another one has the bytes of both
pub merge_bytes : (old new other : Batch) → laid_out 0 old.items ≡ old.items → entries_len old.items ≡ length old.entries → laid_out 0 other.items ≡ other.items → Becomes (with_batch old other) new
    → AddsBytes old new (bytes_of_each other.items other.entries)
merge_bytes old new other laid adds laid' h =
    ap (λ (b : Batch). bytes_of_each b.items b.entries) h.0 ∙ merged_bytes old.items other.items old.entries other.entries laid adds laid'

-- a batch that is written has its bytes in its block, and each entry lies in it
pub batch_written : (handle : FileBlockHandle) (old new : Batch) → laid_out 0 old.items ≡ old.items → entries_len old.items ≡ length old.entries → new ≡ written_at handle old → HasBytesInBlock old new
batch_written handle old new laid adds h =
    ap (λ (b : Batch). bytes_of_each b.items (block_bytes b.entries)) h ∙ written_bytes (block_place handle old.entries) old.items old.entries laid adds

block_room : (entries : List ℕ) → length entries ≤ length (block_bytes entries) - 4
unfolding block_bytes
block_room [] = omega arith
block_room (b ∷ bs) = omega (arith, length-append (b ∷ bs) (u32_le_bytes (crc32_of (b ∷ bs))), four_bytes (crc32_of (b ∷ bs)))

pub batch_lies : (handle : FileBlockHandle) (old new : Batch) → laid_out 0 old.items ≡ old.items → entries_len old.items ≡ length old.entries → new ≡ written_at handle old → AllLieIn (block_place handle old.entries) new.items
batch_lies handle old new laid adds h =
    let block : FileBlockHandle = block_place handle old.entries in
    let items : new.items ≡ written block (laid_out 0 old.items) = ap (λ (b : Batch). b.items) h ∙ ap (λ (l : List LogItem). written block l) (sym laid) in
    subst (λ (l : List LogItem). AllLieIn block l) (sym items) (all_lie_in block old.items (omega (arith, adds, block_room old.entries)))
