-- Items with the places of their entries, as they were read: what they say, where they lie, and what is known of
-- each entry.
use Rattle.std.proofs.Common.{◌≡◌, ℕ, ◌+◌, ◌≤◌, Bool, true, false, if◌then◌else◌, Option, None, List, [], ◌∷◌, map, refl, sym, ap, ap₂, ◌∙◌, arith}
use Rattle.std.specs.Prelude.{◌==◌, ◌&&◌}
use Rattle.std.proofs.lemmas.List.Sums.{sum_by-cons}
use Rattle.raft_log_model_laws.specs.Item.{Item, Tagged}
use Rattle.raft_log_model_laws.specs.Item.Item.{Run}
use Rattle.raft_log_record_base.specs.declared.pipe_log.FileBlockHandle.{FileBlockHandle}
use Rattle.raft_log_record_items.specs.declared.entry.EntryIndex.{EntryIndex}
use Rattle.raft_log_record_items.specs.declared.op_type.OpType.{OpType}
use Rattle.raft_log_record_items.specs.declared.op_type.OpType.TheVariants as ops
use Rattle.raft_log_record_items.specs.declared.command.Command.TheVariants as commands
use Rattle.raft_log_record_items.specs.declared.item.LogItem.{LogItem}
use Rattle.raft_log_record_items.specs.declared.item.LogItemContent.{LogItemContent}
use Rattle.raft_log_record_items.specs.declared.item.LogItemContent.TheVariants as contents
use Rattle.raft_log_record_items.specs.Placed.{content_len, entries_len, laid_content, laid_out, laid_run, placed, run_len, written, written_content, written_entry, written_item}
use Rattle.raft_log_record_items.specs.Writing.{value_of}
use Rattle.raft_log_record_frames.specs.declared.status.AtomicGroupStatus.{AtomicGroupStatus}
use Rattle.raft_log_record_frames.specs.Marking.{content_has_mark_key, has_mark_key, joined_marking, mark_of, mark_of_content, marking_of, marking_of_items, part_or_broken}
use Rattle.raft_log_record_frames.specs.declared.marking.Marking.TheVariants.{Unmarked}
use Rattle.raft_log_record_frames.specs.Meaning.{key_meaning, meaning, tagged, tagged_items, unless_mark}
use Rattle.raft_log_extents.specs.declared.place.Place.{Place}
use Rattle.raft_log_extents.specs.Entries.{place_of}
use Rattle.raft_log_memtable_index.specs.Bridge.{Located, in_queue}
use Rattle.raft_log_memtable_index.specs.Replayed.{placed as placed_in, told}
use Rattle.raft_log_replay_context.specs.Records.{placed_tagged, said_in}
use Rattle.raft_log_replay_context.specs.Noting.{AllLieInFile, ItemsLieIn, ItemLiesIn}
use Rattle.raft_log_replay_context.specs.Opened.{told_tagged}
use Rattle.raft_log_recovery_laws.specs.Entries.{EntriesHave, ItemsHave}
use Rattle.raft_log_engine_laws.specs.raft_log_block_cache.specs.Stored.{Each}

-- An item is a mark or none wherever its entries lie.
key_laid : (handle : FileBlockHandle) (offset : ℕ) (c : LogItemContent) → content_has_mark_key (written_content handle (laid_content offset c)) ≡ content_has_mark_key c
key_laid handle offset (contents.EntryIndexes es) = refl
key_laid handle offset (contents.Command c) = refl
key_laid handle offset (contents.Kv kv) = refl

mark_laid : (handle : FileBlockHandle) (offset : ℕ) (c : LogItemContent) → mark_of_content (written_content handle (laid_content offset c)) ≡ mark_of_content c
mark_laid handle offset (contents.EntryIndexes es) = refl
mark_laid handle offset (contents.Command c) = refl
mark_laid handle offset (contents.Kv kv) = refl

has_key_laid : (handle : FileBlockHandle) (offset : ℕ) (x : LogItem) → has_mark_key (written_item handle (record x { content = laid_content offset x.content })) ≡ has_mark_key x
unfolding has_mark_key
has_key_laid handle offset x = ap (λ (b : Bool). (x.raft_group_id == 0) && b) (key_laid handle offset x.content)

mark_there : (handle : FileBlockHandle) (offset : ℕ) (x : LogItem) → mark_of (written_item handle (record x { content = laid_content offset x.content })) ≡ mark_of x
unfolding mark_of
mark_there handle offset x = ap (λ (o : Option (ℕ × AtomicGroupStatus)). if x.raft_group_id == 0 then o else None) (mark_laid handle offset x.content)

marking_laid : (handle : FileBlockHandle) (offset : ℕ) (x : LogItem) → marking_of (written_item handle (record x { content = laid_content offset x.content })) ≡ marking_of x
unfolding marking_of
marking_laid handle offset x = ap₂ (λ (b : Bool) (o : Option (ℕ × AtomicGroupStatus)). if b then part_or_broken o else Unmarked) (has_key_laid handle offset x) (mark_there handle offset x)

markings_laid : (handle : FileBlockHandle) (offset : ℕ) (xs : List LogItem) → marking_of_items (written handle (laid_out offset xs)) ≡ marking_of_items xs
markings_laid handle offset [] = refl
markings_laid handle offset (x ∷ xs) = ap₂ joined_marking (marking_laid handle offset x) (markings_laid handle (offset + content_len x.content) xs)

key_plain : (offset : ℕ) (c : LogItemContent) → content_has_mark_key (laid_content offset c) ≡ content_has_mark_key c
key_plain offset (contents.EntryIndexes es) = refl
key_plain offset (contents.Command c) = refl
key_plain offset (contents.Kv kv) = refl

has_key_plain : (offset : ℕ) (x : LogItem) → has_mark_key (record x { content = laid_content offset x.content }) ≡ has_mark_key x
unfolding has_mark_key
has_key_plain offset x = ap (λ (b : Bool). (x.raft_group_id == 0) && b) (key_plain offset x.content)

-- so are all items of a batch
pub same_marking : (one other : FileBlockHandle) (xs : List LogItem) → marking_of_items (placed one xs) ≡ marking_of_items (placed other xs)
same_marking one other xs = markings_laid one 0 xs ∙ sym (markings_laid other 0 xs)

-- What stands for an entry.
module _ {E : Type 0} (h k : EntryIndex → E) (handle : FileBlockHandle) (most : ℕ) (agree : (e : EntryIndex) → e.entry_offset + e.entry_len ≤ most → h (written_entry handle e) ≡ k e) where
  run_alike : (offset : ℕ) (es : List EntryIndex) → offset + run_len es ≤ most → map h (map (written_entry handle) (laid_run offset es)) ≡ map k (laid_run offset es)
  run_alike offset [] inside = refl
  run_alike offset (e ∷ es) inside =
      let whole = sum_by-cons (λ (x : EntryIndex). x.entry_len) e es in
      ap₂ (λ (x : E) (l : List E). x ∷ l) (agree (record e { entry_offset = offset }) (omega (arith, inside, whole))) (run_alike (offset + e.entry_len) es (omega (arith, inside, whole)))

  content_alike : (offset : ℕ) (c : LogItemContent) → offset + content_len c ≤ most → meaning h (written_content handle (laid_content offset c)) ≡ meaning k (laid_content offset c)
  content_alike offset (contents.EntryIndexes []) inside = refl
  content_alike offset (contents.EntryIndexes (e ∷ es)) inside = ap (λ (l : List E). Run e.index l) (run_alike offset (e ∷ es) inside)
  content_alike offset (contents.Command commands.Clean) inside = refl
  content_alike offset (contents.Command (commands.Compact i)) inside = refl
  content_alike offset (contents.Kv kv) inside = refl

  unless_alike : (b c : Bool) (x y : Tagged E (List ℕ)) (xs ys : List (Tagged E (List ℕ))) → b ≡ c → x ≡ y → xs ≡ ys → unless_mark b x xs ≡ unless_mark c y ys
  unless_alike true c x y xs ys is one all = all ∙ ap (λ (b : Bool). unless_mark b y ys) is
  unless_alike false c x y xs ys is one all = ap₂ (λ (t : Tagged E (List ℕ)) (l : List (Tagged E (List ℕ))). t ∷ l) one all ∙ ap (λ (b : Bool). unless_mark b y ys) is

  pub items_alike : (offset : ℕ) (xs : List LogItem) → offset + entries_len xs ≤ most → tagged_items h (written handle (laid_out offset xs)) ≡ tagged_items k (laid_out offset xs)
  items_alike offset [] inside = refl
  items_alike offset (x ∷ xs) inside =
      let whole = sum_by-cons (λ (y : LogItem). content_len y.content) x xs in
      let laid : LogItem = record x { content = laid_content offset x.content } in
      unless_alike (has_mark_key (written_item handle laid)) (has_mark_key laid) (tagged h (written_item handle laid)) (tagged k laid)
      (tagged_items h (written handle (laid_out (offset + content_len x.content) xs))) (tagged_items k (laid_out (offset + content_len x.content) xs))
      (has_key_laid handle offset x ∙ sym (has_key_plain offset x))
      (ap (λ (i : Item E (List ℕ)). record { group = x.raft_group_id; item = i }) (content_alike offset x.content (omega (arith, inside, whole))))
      (items_alike (offset + content_len x.content) xs (omega (arith, inside, whole)))

-- Items as they were read say at their places what they say of their entries.
module _ {E : Type 0} (at : Located → E) (q : Bool) (n : ℕ) where
  places_told : (es : List EntryIndex) → map at (map (in_queue q) (map place_of es)) ≡ map (λ (e : EntryIndex). at (in_queue q (place_of e))) es
  places_told [] = refl
  places_told (e ∷ es) = ap (λ (l : List E). at (in_queue q (place_of e)) ∷ l) (places_told es)

  key_told : (o : OpType) (key value : List ℕ) → told at (placed_in q n (key_meaning o key value)) ≡ key_meaning o key value
  key_told ops.Put key value = refl
  key_told ops.Del key value = refl

  content_told : (c : LogItemContent) → told at (placed_in q n (meaning place_of c)) ≡ meaning (λ (e : EntryIndex). at (in_queue q (place_of e))) c
  content_told (contents.EntryIndexes []) = refl
  content_told (contents.EntryIndexes (e ∷ es)) = ap (λ (l : List E). Run e.index l) (places_told (e ∷ es))
  content_told (contents.Command commands.Clean) = refl
  content_told (contents.Command (commands.Compact i)) = refl
  content_told (contents.Kv kv) = key_told kv.op_type kv.key (value_of kv)

  unless_told : (b : Bool) (x : Tagged Place (List ℕ)) (y : Tagged E (List ℕ)) (xs : List (Tagged Place (List ℕ))) (ys : List (Tagged E (List ℕ))) → told_tagged at (placed_tagged q n x) ≡ y
      → map (told_tagged at) (map (placed_tagged q n) xs) ≡ ys → map (told_tagged at) (map (placed_tagged q n) (unless_mark b x xs)) ≡ unless_mark b y ys
  unless_told true x y xs ys one all = all
  unless_told false x y xs ys one all = ap₂ (λ (t : Tagged E (List ℕ)) (l : List (Tagged E (List ℕ))). t ∷ l) one all

  pub read_told : (xs : List LogItem) → map (told_tagged at) (said_in q n xs) ≡ tagged_items (λ (e : EntryIndex). at (in_queue q (place_of e))) xs
  read_told [] = refl
  read_told (x ∷ xs) =
      unless_told (has_mark_key x) (tagged place_of x) (tagged (λ (e : EntryIndex). at (in_queue q (place_of e))) x) (tagged_items place_of xs) (tagged_items (λ (e : EntryIndex). at (in_queue q (place_of e))) xs)
      (ap (λ (i : Item E (List ℕ)). record { group = x.raft_group_id; item = i }) (content_told x.content)) (read_told xs)

-- They lie in the file of their block.
module _ (q : Bool) (n : ℕ) (handle : FileBlockHandle) (file : handle.id.seq ≡ n) where
  run_lies : (es : List EntryIndex) → AllLieInFile n (map (in_queue q) (map place_of (map (written_entry handle) es)))
  run_lies [] = tt
  run_lies (e ∷ es) = (file, run_lies es)

  key_lies : (o : OpType) (key value : List ℕ) → ItemLiesIn n (placed_in q n (key_meaning o key value))
  key_lies ops.Put key value = refl
  key_lies ops.Del key value = tt

  content_lies : (c : LogItemContent) → ItemLiesIn n (placed_in q n (meaning place_of (written_content handle c)))
  content_lies (contents.EntryIndexes []) = tt
  content_lies (contents.EntryIndexes (e ∷ es)) = run_lies (e ∷ es)
  content_lies (contents.Command commands.Clean) = tt
  content_lies (contents.Command (commands.Compact i)) = tt
  content_lies (contents.Kv kv) = key_lies kv.op_type kv.key (value_of kv)

  unless_lies : (b : Bool) (x : Tagged Place (List ℕ)) (xs : List (Tagged Place (List ℕ))) → ItemLiesIn n (placed_in q n x.item) → ItemsLieIn n (map (placed_tagged q n) xs) → ItemsLieIn n (map (placed_tagged q n) (unless_mark b x xs))
  unless_lies true x xs one all = all
  unless_lies false x xs one all = (one, all)

  pub read_lies : (xs : List LogItem) → ItemsLieIn n (said_in q n (written handle xs))
  read_lies [] = tt
  read_lies (x ∷ xs) = unless_lies (has_mark_key (written_item handle x)) (tagged place_of (written_item handle x)) (tagged_items place_of (written handle xs)) (content_lies x.content) (read_lies xs)

-- What is known of each place in the block is known of all their entries.
module _ (P : Located → Type 0) (q : Bool) (n : ℕ) (handle : FileBlockHandle) (most : ℕ) (known : (e : EntryIndex) → e.entry_offset + e.entry_len ≤ most → P (in_queue q (place_of (written_entry handle e)))) where
  run_has : (offset : ℕ) (es : List EntryIndex) → offset + run_len es ≤ most → Each P (map (in_queue q) (map place_of (map (written_entry handle) (laid_run offset es))))
  run_has offset [] inside = tt
  run_has offset (e ∷ es) inside =
      let whole = sum_by-cons (λ (x : EntryIndex). x.entry_len) e es in
      (known (record e { entry_offset = offset }) (omega (arith, inside, whole)), run_has (offset + e.entry_len) es (omega (arith, inside, whole)))

  key_has : (o : OpType) (key value : List ℕ) → EntriesHave P (placed_in q n (key_meaning o key value))
  key_has ops.Put key value = tt
  key_has ops.Del key value = tt

  content_has : (offset : ℕ) (c : LogItemContent) → offset + content_len c ≤ most → EntriesHave P (placed_in q n (meaning place_of (written_content handle (laid_content offset c))))
  content_has offset (contents.EntryIndexes []) inside = tt
  content_has offset (contents.EntryIndexes (e ∷ es)) inside = run_has offset (e ∷ es) inside
  content_has offset (contents.Command commands.Clean) inside = tt
  content_has offset (contents.Command (commands.Compact i)) inside = tt
  content_has offset (contents.Kv kv) inside = key_has kv.op_type kv.key (value_of kv)

  unless_has : (b : Bool) (x : Tagged Place (List ℕ)) (xs : List (Tagged Place (List ℕ))) → EntriesHave P (placed_in q n x.item) → ItemsHave (EntriesHave P) (map (placed_tagged q n) xs) → ItemsHave (EntriesHave P) (map (placed_tagged q n) (unless_mark b x xs))
  unless_has true x xs one all = all
  unless_has false x xs one all = (one, all)

  pub read_has : (offset : ℕ) (xs : List LogItem) → offset + entries_len xs ≤ most → ItemsHave (EntriesHave P) (said_in q n (written handle (laid_out offset xs)))
  read_has offset [] inside = tt
  read_has offset (x ∷ xs) inside =
      let whole = sum_by-cons (λ (y : LogItem). content_len y.content) x xs in
      let laid : LogItem = record x { content = laid_content offset x.content } in
      unless_has (has_mark_key (written_item handle laid)) (tagged place_of (written_item handle laid)) (tagged_items place_of (written handle (laid_out (offset + content_len x.content) xs)))
      (content_has offset x.content (omega (arith, inside, whole))) (read_has (offset + content_len x.content) xs (omega (arith, inside, whole)))
