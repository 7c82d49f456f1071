-- Items that are added to a batch.
use Rattle.std.specs.Prelude.{Bool, true, false, IsTrue, ◌↔◌, Result, Ok, Err, OnOk, OnErr}
use Rattle.std.proofs.Common.{◌≡◌, ℕ, ◌+◌, ◌<◌, ◌≤◌, List, [], ◌∷◌, ◌++◌, length, take, drop, refl, sym, ap, subst, ◌∙◌, arith}
use Rattle.std.proofs.Math.Seq.{take-length}
use Rattle.std.proofs.lemmas.List.{append-nil, length-append, length-take-le, length-drop, drop-append-le}
use Rattle.std.proofs.lemmas.List.Concat.{length-flat_map}
use Rattle.std.proofs.lemmas.List.Sums.{sum_by-cons, sum_by-append, sum_by_push}
use Rattle.raft_log_record_items.specs.declared.entry.EntryIndex.{EntryIndex}
use Rattle.raft_log_record_items.specs.declared.item.LogItemContent.{LogItemContent}
use Rattle.raft_log_record_items.specs.declared.item.LogItemContent.TheVariants as contents
use Rattle.raft_log_record_items.specs.declared.item.LogItem.{LogItem}
use Rattle.raft_log_record_items.proofs.Public.{laid_out-append}
use Rattle.raft_log_record_items.specs.Placed.{run_len, content_len, entries_len, laid_run, laid_content, laid_out}
use Rattle.raft_log_record_batches.specs.declared.log_batch.BatchState.{BatchState}
use Rattle.raft_log_record_batches.specs.declared.log_batch.BatchState.TheVariants.{Filling, Populated, Signed, Written}
use Rattle.raft_log_record_frames.specs.ItemBatch.{ItemBatch, AddsItems}
use Rattle.raft_log_record_batches.specs.Batch.{Batch, IsBatch, IsMade, IsSigned, HasNoEntries, HoldsIn, max_entries_len, roomy}
use Rattle.raft_log_record_batches.specs.Entries.{entries_of, entries_item, entries_items, joined, bytes_len, with_entries}
use Rattle.raft_log_record_batches.proofs.Buffer.{in_filling, roomy_same}
use Rattle.raft_log_record_batches.proofs.Entries.{run_len-entries_of}

-- ---- an item without entries

plain_len : (c : LogItemContent) → HasNoEntries c → content_len c ≡ 0
plain_len (contents.EntryIndexes es) h = absurd h
plain_len (contents.Command c) h = refl
plain_len (contents.Kv kv) h = refl

plain_laid : (offset : ℕ) (c : LogItemContent) → HasNoEntries c → laid_content offset c ≡ c
plain_laid offset (contents.EntryIndexes es) h = absurd h
plain_laid offset (contents.Command c) h = refl
plain_laid offset (contents.Kv kv) h = refl

filling_holds : (state : BatchState) (buffer entries : List ℕ) (sum : ℕ) (a b : List LogItem) → state ≡ Filling → HoldsIn state buffer sum a entries → HoldsIn state buffer sum b entries
filling_holds Filling buffer entries sum a b e h = h
filling_holds Populated buffer entries sum a b e h = absurd cc
filling_holds (Signed s) buffer entries sum a b e h = absurd cc
filling_holds Written buffer entries sum a b e h = absurd cc

pub pushed : (state : BatchState) (buffer : List ℕ) (len sum : ℕ) (items : List LogItem) (x : LogItem) → state ≡ Filling → HasNoEntries x.content → IsBatch state buffer len sum items → IsBatch state buffer len sum (items ++ x ∷ [])
pushed state buffer len sum items x e plain h = record {
  room = h.room;
  fits = h.fits;
  adds = sum_by_push (λ (y : LogItem). content_len y.content) items x ∙ omega (arith, h.adds, plain_len x.content plain);
  laid = laid_out-append 0 items (x ∷ []) ∙ ap (λ (l : List LogItem). l ++ laid_out (0 + entries_len items) (x ∷ [])) h.laid
      ∙ ap (λ (c : LogItemContent). items ++ record x { content = c } ∷ []) (plain_laid (0 + entries_len items) x.content plain);
  holds = filling_holds state buffer (take len (drop 16 buffer)) sum items (items ++ x ∷ []) e h.holds;
}

-- ---- entries

pub run_len-laid : (offset : ℕ) (es : List EntryIndex) → run_len (laid_run offset es) ≡ run_len es
run_len-laid offset [] = refl
run_len-laid offset (e ∷ es) =
    let f : EntryIndex → ℕ = λ (x : EntryIndex). x.entry_len in
    sum_by-cons f (record e { entry_offset = offset }) (laid_run (offset + e.entry_len) es) ∙ ap (λ (n : ℕ). e.entry_len + n) (run_len-laid (offset + e.entry_len) es) ∙ sym (sum_by-cons f e es)

pub laid_twice : (offset : ℕ) (es : List EntryIndex) → laid_run offset (laid_run offset es) ≡ laid_run offset es
laid_twice offset [] = refl
laid_twice offset (e ∷ es) = ap (λ (l : List EntryIndex). record e { entry_offset = offset } ∷ l) (laid_twice (offset + e.entry_len) es)

item_len : (group offset : ℕ) (indexes : List ℕ) (entries : List (List ℕ)) → length indexes ≡ length entries → content_len (entries_item group offset indexes entries).content ≡ bytes_len entries
item_len group offset indexes entries same = run_len-laid offset (entries_of indexes entries) ∙ run_len-entries_of indexes entries same

-- the buffer of a batch that is being filled has nothing behind the entries' bytes
pub filling_size : (state : BatchState) (buffer : List ℕ) (len sum : ℕ) (items : List LogItem) → state ≡ Filling → IsBatch state buffer len sum items → length buffer ≡ 16 + len
filling_size state buffer len sum items e h =
    let count : length (take len (drop 16 buffer)) ≡ len = length-take-le len (drop 16 buffer) (omega (arith, h.room, length-drop 16 buffer)) in
    in_filling state buffer sum items (take len (drop 16 buffer)) e h.holds ∙ ap (λ (n : ℕ). 16 + n) count

-- bytes behind those of the entries
pub more_bytes : (buffer more : List ℕ) (len added : ℕ) → length buffer ≡ 16 + len → length more ≡ added → take (len + added) (drop 16 (buffer ++ more)) ≡ take len (drop 16 buffer) ++ more
more_bytes buffer more len added size count =
    let behind : drop 16 (buffer ++ more) ≡ drop 16 buffer ++ more = drop-append-le 16 buffer more (omega (arith, size)) in
    let whole : length (drop 16 buffer) ≡ len = omega (arith, length-drop 16 buffer, size) in
    let all : take (len + added) (drop 16 buffer ++ more) ≡ drop 16 buffer ++ more =
    ap (λ (n : ℕ). take n (drop 16 buffer ++ more)) (omega (arith, whole, count, length-append (drop 16 buffer) more)) ∙ take-length (drop 16 buffer ++ more) in
    let front : take len (drop 16 buffer) ≡ drop 16 buffer = ap (λ (n : ℕ). take n (drop 16 buffer)) (sym whole) ∙ take-length (drop 16 buffer) in
    ap (λ (l : List ℕ). take (len + added) l) behind ∙ all ∙ ap (λ (l : List ℕ). l ++ more) (sym front)

pub still_filling : (state : BatchState) (buffer entries : List ℕ) (sum : ℕ) (items : List LogItem) → state ≡ Filling → length buffer ≡ 16 + length entries → HoldsIn state buffer sum items entries
still_filling Filling buffer entries sum items e h = h
still_filling Populated buffer entries sum items e h = absurd cc
still_filling (Signed s) buffer entries sum items e h = absurd cc
still_filling Written buffer entries sum items e h = absurd cc

-- items with bytes of entries, laid out behind what a batch has
pub items_added : (state : BatchState) (buffer more : List ℕ) (len added sum : ℕ) (items after : List LogItem) → state ≡ Filling → length more ≡ added → len + added ≤ max_entries_len
    → entries_len after ≡ added → laid_out len after ≡ after → IsBatch state buffer len sum items → IsBatch state (buffer ++ more) (len + added) sum (items ++ after)
items_added state buffer more len added sum items after e count fits adds laid h =
    let size : length buffer ≡ 16 + len = filling_size state buffer len sum items e h in
    let grown : length (buffer ++ more) ≡ 16 + (len + added) = omega (arith, length-append buffer more, size, count) in
    let entries : List ℕ = take (len + added) (drop 16 (buffer ++ more)) in
    let whole : length entries ≡ len + added = length-take-le (len + added) (drop 16 (buffer ++ more)) (omega (arith, grown, length-drop 16 (buffer ++ more))) in
    record {
      room = omega (arith, grown);
      fits = fits;
      adds = sum_by-append (λ (y : LogItem). content_len y.content) items after ∙ omega (arith, h.adds, adds);
      laid = laid_out-append 0 items after ∙ ap (λ (l : List LogItem). l ++ laid_out (0 + entries_len items) after) h.laid
          ∙ ap (λ (n : ℕ). items ++ laid_out n after) (omega (arith, h.adds)) ∙ ap (λ (l : List LogItem). items ++ l) laid;
      holds = still_filling state (buffer ++ more) entries sum (items ++ after) e (omega (arith, grown, whole));
    }

-- entries of a group
pub entries_added : (state : BatchState) (buffer new : List ℕ) (len added sum group : ℕ) (items : List LogItem) (indexes : List ℕ) (entries : List (List ℕ)) → state ≡ Filling → length indexes ≡ length entries
    → bytes_len entries ≡ added → len + added ≤ max_entries_len → new ≡ buffer ++ joined entries → IsBatch state buffer len sum items
    → IsBatch state (roomy new) (len + added) sum (items ++ entries_item group len indexes entries ∷ [])
entries_added state buffer new len added sum group items indexes entries e same count fits grown h =
    let item : LogItem = entries_item group len indexes entries in
    let size : length (joined entries) ≡ added = length-flat_map (λ (x : List ℕ). x) entries ∙ count in
    let adds : entries_len (item ∷ []) ≡ added = omega (arith, sum_by-cons (λ (y : LogItem). content_len y.content) item [], item_len group len indexes entries same, count) in
    let laid : laid_out len (item ∷ []) ≡ item ∷ [] = ap (λ (l : List EntryIndex). record item { content = contents.EntryIndexes l } ∷ []) (laid_twice len (entries_of indexes entries)) in
    let there : 1 ≤ length new = omega (arith, ap (λ (l : List ℕ). length l) grown, length-append buffer (joined entries), filling_size state buffer len sum items e h) in
    subst (λ (l : List ℕ). IsBatch state l (len + added) sum (items ++ item ∷ [])) (sym (roomy_same new there ∙ grown)) (items_added state buffer (joined entries) len added sum items (item ∷ []) e size fits adds laid h)

one_item : (group offset : ℕ) (indexes : List ℕ) (entries : List (List ℕ)) → 0 < length entries → entries_items group offset indexes entries ≡ entries_item group offset indexes entries ∷ []
one_item group offset indexes [] some = absurd (omega arith)
one_item group offset indexes (x ∷ xs) some = refl

-- no entries add nothing
pub with_none : (b : Batch) (group : ℕ) (indexes : List ℕ) (entries : List (List ℕ)) → length entries ≡ 0 → b ≡ with_entries b group indexes entries
with_none b group indexes [] none = ap (λ (l : List LogItem). record b { items = l }) (sym (append-nil b.items)) ∙ ap (λ (l : List ℕ). record b { items = b.items ++ []; entries = l }) (sym (append-nil b.entries))
with_none b group indexes (x ∷ xs) none = absurd (omega arith)

-- what callers see of the batch then
pub entries_seen : (state : BatchState) (buffer new : List ℕ) (len added sum group : ℕ) (items : List LogItem) (indexes : List ℕ) (entries : List (List ℕ)) (before after had grew : ℕ) → state ≡ Filling
    → 0 < length entries → bytes_len entries ≡ added → new ≡ buffer ++ joined entries → IsBatch state buffer len sum items
    → record { state = state; items = items ++ entries_item group len indexes entries ∷ []; entries = take (len + added) (drop 16 (roomy new)); capacity = after; buffer = grew }
    ≡ record (with_entries (record { state = state; items = items; entries = take len (drop 16 buffer); capacity = before; buffer = had }) group indexes entries) { capacity = after; buffer = grew }
entries_seen state buffer new len added sum group items indexes entries before after had grew e some count grown h =
    let size : length buffer ≡ 16 + len = filling_size state buffer len sum items e h in
    let more : length (joined entries) ≡ added = length-flat_map (λ (x : List ℕ). x) entries ∙ count in
    let there : 1 ≤ length new = omega (arith, ap (λ (l : List ℕ). length l) grown, length-append buffer (joined entries), size) in
    let seen : take (len + added) (drop 16 (roomy new)) ≡ take len (drop 16 buffer) ++ joined entries = ap (λ (l : List ℕ). take (len + added) (drop 16 l)) (roomy_same new there ∙ grown) ∙ more_bytes buffer (joined entries) len added size more in
    let at : len ≡ length (take len (drop 16 buffer)) = sym (length-take-le len (drop 16 buffer) (omega (arith, size, length-drop 16 buffer))) in
    ap (λ (l : List ℕ). record { state = state; items = items ++ entries_item group len indexes entries ∷ []; entries = l; capacity = after; buffer = grew }) seen
    ∙ ap (λ (n : ℕ). record { state = state; items = items ++ entries_item group n indexes entries ∷ []; entries = take len (drop 16 buffer) ++ joined entries; capacity = after; buffer = grew }) at
    ∙ ap (λ (l : List LogItem). record { state = state; items = items ++ l; entries = take len (drop 16 buffer) ++ joined entries; capacity = after; buffer = grew }) (sym (one_item group (length (take len (drop 16 buffer))) indexes entries some))

-- a batch whose items are not empty, as told by the test
pub some_items : (b : Bool) (xs : List LogItem) → (IsTrue b ↔ (xs ≡ [])) → b ≡ false → 0 < length xs
some_items true [] h e = absurd cc
some_items false [] h e = let told : IsTrue false = h.1 refl in absurd cc
some_items b (x ∷ xs) h e = omega arith

-- an item that was added where there was room for it
pub pushed_items : (old roomy new : ItemBatch) (given item : LogItem) → AddsItems old roomy [] → new ≡ record roomy { items = roomy.items ++ given ∷ [] } → given ≡ item → new.items ≡ old.items ++ item ∷ []
pushed_items old roomy new given item h e is =
    ap (λ (b : ItemBatch). b.items) e ∙ ap (λ (l : List LogItem). l ++ given ∷ []) (h.0 ∙ append-nil old.items) ∙ ap (λ (x : LogItem). old.items ++ x ∷ []) is

-- and the room is no less
pub more_room : (old roomy new : ItemBatch) (given : LogItem) (capacity : ℕ) → old.capacity ≡ capacity → AddsItems old roomy [] → new ≡ record roomy { items = roomy.items ++ given ∷ [] } → capacity ≤ new.capacity
more_room old roomy new given capacity c h e = omega (arith, c, h.1, ap (λ (b : ItemBatch). b.capacity) e)

-- an item without entries that was added, or refused with the items as they were
pub added_or_not : {A E : Type 0} (result : Result A E) (state : BatchState) (buffer : List ℕ) (len sum : ℕ) (old new : ItemBatch) (item : LogItem) → state ≡ Filling → HasNoEntries item.content → IsBatch state buffer len sum old.items
    → OnOk result (AddsItems old new (item ∷ [])) → OnErr result (new.items ≡ old.items) → IsBatch state buffer len sum new.items
added_or_not (Ok x) state buffer len sum old new item e plain h ok err = subst (λ (l : List LogItem). IsBatch state buffer len sum l) (sym ok.0) (pushed state buffer len sum old.items item e plain h)
added_or_not (Err x) state buffer len sum old new item e plain h ok err = subst (λ (l : List LogItem). IsBatch state buffer len sum l) (sym err) h

-- a refusal that left the batch as it was, and one that made room alone, left its items
pub same_items : {A E : Type 0} (result : Result A E) (old new : ItemBatch) → OnErr result (new ≡ old) → OnErr result (new.items ≡ old.items)
same_items (Ok x) old new h = tt
same_items (Err x) old new h = ap (λ (b : ItemBatch). b.items) h

pub room_alone : {A E : Type 0} (result : Result A E) (old new : ItemBatch) → OnErr result (AddsItems old new []) → OnErr result (new.items ≡ old.items)
room_alone (Ok x) old new h = tt
room_alone (Err x) old new h = h.0 ∙ append-nil old.items

-- what is signed is made
pub signed_is_made : (state : BatchState) → IsSigned state → IsMade state
signed_is_made Filling h = absurd h
signed_is_made Populated h = absurd h
signed_is_made (Signed s) h = tt
signed_is_made Written h = absurd h
