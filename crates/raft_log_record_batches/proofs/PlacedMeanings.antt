-- What is read of a written batch means what was added, where an entry's bytes stand for it.
use Rattle.std.proofs.Common.{◌≡◌, ℕ, ◌+◌, ◌≤◌, Bool, cond, List, [], ◌∷◌, ◌++◌, length, take, drop, map, Option, None, refl, sym, ap, ◌∙◌, arith}
use Rattle.std.specs.Prelude.{unwrap_or, bytes_eq, ◌&&◌, ◌==◌}
use Rattle.std.proofs.lemmas.List.{take-append-le, drop-append-le, length-drop}
use Rattle.std.proofs.lemmas.List.Sums.{sum_by-cons}
use Rattle.raft_log_record_base.specs.declared.pipe_log.FileBlockHandle.{FileBlockHandle}
use Rattle.raft_log_model_laws.specs.Item.{Item, Tagged}
use Rattle.raft_log_model_laws.specs.Item.Item.{Run}
use Rattle.raft_log_record_items.specs.declared.entry.EntryIndex.{EntryIndex}
use Rattle.raft_log_record_items.specs.declared.op_type.OpType.{OpType}
use Rattle.raft_log_record_items.specs.declared.op_type.OpType.TheVariants as ops
use Rattle.raft_log_record_items.specs.declared.command.Command.TheVariants as commands
use Rattle.raft_log_record_items.specs.declared.item.LogItemContent.{LogItemContent}
use Rattle.raft_log_record_items.specs.declared.item.LogItemContent.TheVariants as contents
use Rattle.raft_log_record_items.specs.declared.item.LogItem.{LogItem}
use Rattle.raft_log_record_items.specs.Run.{unplaced}
use Rattle.raft_log_record_items.specs.Placed.{run_len, content_len, entries_len, laid_run, laid_content, laid_out, written_entry, written_content, written, placed}
use Rattle.raft_log_record_items.specs.Writing.{plain_operation, plain_content, plain_item}
use Rattle.raft_log_record_frames.proofs.Public.{block_more, value_again}
use Rattle.raft_log_record_frames.specs.declared.status.AtomicGroupStatus.{AtomicGroupStatus}
use Rattle.raft_log_record_frames.specs.declared.marking.Marking.{Marking}
use Rattle.raft_log_record_frames.specs.declared.marking.Marking.TheVariants.{Unmarked}
use Rattle.raft_log_record_frames.specs.Marking.{mark_key, mark_of_content, mark_of, content_has_mark_key, has_mark_key, part_or_broken, marking_of, joined_marking, marking_of_items}
use Rattle.raft_log_record_frames.specs.Meaning.{meaning, tagged, unless_mark, tagged_items, marked, record_of}
use Rattle.raft_log_record_batches.specs.Places.{entry_bytes, ReadMeansWhatWasAdded}

-- ---- the bytes of a run, and more behind them

entry_alike : (offset len : ℕ) (bytes more : List ℕ) → offset + len ≤ length bytes → take len (drop offset (bytes ++ more)) ≡ take len (drop offset bytes)
entry_alike offset len bytes more inside =
    ap (λ (l : List ℕ). take len l) (drop-append-le offset bytes more (omega (arith, inside)))
    ∙ take-append-le len (drop offset bytes) more (omega (arith, inside, length-drop offset bytes))

run_alike : (handle : FileBlockHandle) (offset : ℕ) (bytes more : List ℕ) (es : List EntryIndex) → offset + run_len es ≤ length bytes
    → map (entry_bytes (bytes ++ more)) (map (written_entry handle) (laid_run offset (map unplaced es))) ≡ map (entry_bytes bytes) (laid_run offset es)
run_alike handle offset bytes more [] inside = refl
run_alike handle offset bytes more (e ∷ es) inside =
    let whole = sum_by-cons (λ (x : EntryIndex). x.entry_len) e es in
    let rest = run_alike handle (offset + e.entry_len) bytes more es (omega (arith, inside, whole)) in
    ap (λ (l : List ℕ). l ∷ map (entry_bytes (bytes ++ more)) (map (written_entry handle) (laid_run (offset + e.entry_len) (map unplaced es))))
    (entry_alike offset e.entry_len bytes more (omega (arith, inside, whole)))
    ∙ ap (λ (l : List (List ℕ)). take e.entry_len (drop offset bytes) ∷ l) rest

-- ---- contents that say the same, and are the same mark

record AreAlike {E : Type 0} (f g : EntryIndex → E) (c d : LogItemContent) : Type 0 where
  says : meaning f c ≡ meaning g d
  key : content_has_mark_key c ≡ content_has_mark_key d
  mark : mark_of_content c ≡ mark_of_content d

key_alike : {E : Type 0} (f g : EntryIndex → E) (handle : FileBlockHandle) (op : OpType) (key : List ℕ) (value : Option (List ℕ)) (file : _)
    → AreAlike f g (written_content handle (contents.Kv (plain_operation op key (unwrap_or value []))))
    (contents.Kv (record { op_type = op; key = key; value = value; file_id = file }))
key_alike f g handle ops.Put key value file = record {
  says = refl;
  key = refl;
  mark = ap (λ (o : Option (ℕ × AtomicGroupStatus)). cond (bytes_eq key mark_key) o None) (value_again value);
}
key_alike f g handle ops.Del key value file = record { says = refl; key = refl; mark = refl }

content_alike : (handle : FileBlockHandle) (offset : ℕ) (bytes more : List ℕ) (c : LogItemContent) → offset + content_len c ≤ length bytes
    → AreAlike (entry_bytes (bytes ++ more)) (entry_bytes bytes) (written_content handle (laid_content offset (plain_content c))) (laid_content offset c)
content_alike handle offset bytes more (contents.EntryIndexes []) inside = record { says = refl; key = refl; mark = refl }
content_alike handle offset bytes more (contents.EntryIndexes (e ∷ es)) inside = record {
  says = ap (λ (l : List (List ℕ)). Run e.index l) (run_alike handle offset bytes more (e ∷ es) inside);
  key = refl;
  mark = refl;
}
content_alike handle offset bytes more (contents.Command commands.Clean) inside = record { says = refl; key = refl; mark = refl }
content_alike handle offset bytes more (contents.Command (commands.Compact index)) inside = record { says = refl; key = refl; mark = refl }
content_alike handle offset bytes more (contents.Kv kv) inside = key_alike (entry_bytes (bytes ++ more)) (entry_bytes bytes) handle kv.op_type kv.key kv.value kv.file_id

-- ---- items

key_of_alike : {E : Type 0} (f g : EntryIndex → E) (group : ℕ) (c d : LogItemContent) → AreAlike f g c d
    → has_mark_key (record { raft_group_id = group; content = c }) ≡ has_mark_key (record { raft_group_id = group; content = d })
unfolding has_mark_key
key_of_alike f g group c d alike = ap (λ (b : Bool). (group == 0) && b) alike.key

marking_alike : {E : Type 0} (f g : EntryIndex → E) (group : ℕ) (c d : LogItemContent) → AreAlike f g c d
    → marking_of (record { raft_group_id = group; content = c }) ≡ marking_of (record { raft_group_id = group; content = d })
unfolding marking_of mark_of
marking_alike f g group c d alike =
    ap (λ (b : Bool). cond b (part_or_broken (cond (group == 0) (mark_of_content c) None)) Unmarked) (key_of_alike f g group c d alike)
    ∙ ap (λ (o : Option (ℕ × AtomicGroupStatus)). cond (has_mark_key (record { raft_group_id = group; content = d })) (part_or_broken (cond (group == 0) o None)) Unmarked) alike.mark

-- the items as they are read, and as they are laid out
abbrev read_from : FileBlockHandle → ℕ → List LogItem → List LogItem
read_from handle offset xs = written handle (laid_out offset (map plain_item xs))

plain_len : (c : LogItemContent) → content_len (plain_content c) ≡ content_len c
plain_len (contents.EntryIndexes es) = lengths es
  where
    lengths : (es : List EntryIndex) → run_len (map unplaced es) ≡ run_len es
    lengths [] = refl
    lengths (e ∷ es) =
        sum_by-cons (λ (x : EntryIndex). x.entry_len) (unplaced e) (map unplaced es)
        ∙ ap (λ (n : ℕ). e.entry_len + n) (lengths es) ∙ sym (sum_by-cons (λ (x : EntryIndex). x.entry_len) e es)
plain_len (contents.Command c) = refl
plain_len (contents.Kv kv) = refl

read_from-cons : (handle : FileBlockHandle) (offset : ℕ) (x : LogItem) (xs : List LogItem) → read_from handle offset (x ∷ xs)
    ≡ record { raft_group_id = x.raft_group_id; content = written_content handle (laid_content offset (plain_content x.content)) } ∷ read_from handle (offset + content_len x.content) xs
read_from-cons handle offset x xs =
    ap (λ (n : ℕ). record { raft_group_id = x.raft_group_id; content = written_content handle (laid_content offset (plain_content x.content)) } ∷ read_from handle (offset + n) xs)
    (plain_len x.content)

markings_alike : (handle : FileBlockHandle) (offset : ℕ) (bytes more : List ℕ) (xs : List LogItem) → offset + entries_len xs ≤ length bytes
    → marking_of_items (read_from handle offset xs) ≡ marking_of_items (laid_out offset xs)
markings_alike handle offset bytes more [] inside = refl
markings_alike handle offset bytes more (x ∷ xs) inside =
    let whole = sum_by-cons (λ (y : LogItem). content_len y.content) x xs in
    let next : ℕ = offset + content_len x.content in
    let alike = content_alike handle offset bytes more x.content (omega (arith, inside, whole)) in
    let first = marking_alike (entry_bytes (bytes ++ more)) (entry_bytes bytes) x.raft_group_id _ _ alike in
    ap (λ (l : List LogItem). marking_of_items l) (read_from-cons handle offset x xs)
    ∙ ap (λ (m : Marking). joined_marking m (marking_of_items (read_from handle next xs))) first
    ∙ ap (λ (m : Marking). joined_marking (marking_of (record { raft_group_id = x.raft_group_id; content = laid_content offset x.content })) m)
    (markings_alike handle next bytes more xs (omega (arith, inside, whole)))

says_alike : (handle : FileBlockHandle) (offset : ℕ) (bytes more : List ℕ) (xs : List LogItem) → offset + entries_len xs ≤ length bytes
    → tagged_items (entry_bytes (bytes ++ more)) (read_from handle offset xs) ≡ tagged_items (entry_bytes bytes) (laid_out offset xs)
says_alike handle offset bytes more [] inside = refl
says_alike handle offset bytes more (x ∷ xs) inside =
    let whole = sum_by-cons (λ (y : LogItem). content_len y.content) x xs in
    let next : ℕ = offset + content_len x.content in
    let f : EntryIndex → List ℕ = entry_bytes (bytes ++ more) in
    let g : EntryIndex → List ℕ = entry_bytes bytes in
    let read : LogItem = record { raft_group_id = x.raft_group_id; content = written_content handle (laid_content offset (plain_content x.content)) } in
    let laid : LogItem = record { raft_group_id = x.raft_group_id; content = laid_content offset x.content } in
    let alike = content_alike handle offset bytes more x.content (omega (arith, inside, whole)) in
    ap (λ (l : List LogItem). tagged_items f l) (read_from-cons handle offset x xs)
    ∙ ap (λ (b : Bool). unless_mark b (tagged f read) (tagged_items f (read_from handle next xs))) (key_of_alike f g x.raft_group_id read.content laid.content alike)
    ∙ ap (λ (i : Item (List ℕ) (List ℕ)). unless_mark (has_mark_key laid) (record { group = x.raft_group_id; item = i }) (tagged_items f (read_from handle next xs))) alike.says
    ∙ ap (λ (l : List (Tagged (List ℕ) (List ℕ))). unless_mark (has_mark_key laid) (tagged g laid) l) (says_alike handle next bytes more xs (omega (arith, inside, whole)))

with_more : (items : List LogItem) (bytes more : List ℕ) (handle : FileBlockHandle) → laid_out 0 items ≡ items → entries_len items ≡ length bytes
    → record_of (entry_bytes (bytes ++ more)) (placed handle (map plain_item items)) ≡ record_of (entry_bytes bytes) items
with_more items bytes more handle laid adds =
    let inside : 0 + entries_len items ≤ length bytes = omega (arith, adds) in
    ap (λ (m : Marking). marked m (tagged_items (entry_bytes (bytes ++ more)) (read_from handle 0 items))) (markings_alike handle 0 bytes more items inside)
    ∙ ap (λ (l : List (Tagged (List ℕ) (List ℕ))). marked (marking_of_items (laid_out 0 items)) l) (says_alike handle 0 bytes more items inside)
    ∙ ap (λ (l : List LogItem). record_of (entry_bytes bytes) l) laid

pub read_means_what_was_added : ReadMeansWhatWasAdded
read_means_what_was_added items entries handle laid adds =
    let block = block_more entries in
    ap (λ (l : List ℕ). record_of (entry_bytes l) (placed handle (map plain_item items))) block.1
    ∙ with_more items entries block.0 handle laid adds
