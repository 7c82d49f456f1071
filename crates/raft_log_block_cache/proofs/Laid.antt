-- Items whose entries are laid out in one block say at their places what they say by the entries' bytes.
use Rattle.std.proofs.Common.{◌≡◌, ℕ, ◌+◌, ◌≤◌, Bool, true, false, if◌then◌else◌, List, [], ◌∷◌, length, map, refl, ap, ◌∙◌, arith}
use Rattle.std.specs.Prelude.{◌==◌, ◌&&◌}
use Rattle.std.proofs.lemmas.List.Sums.{sum_by-cons}
use Rattle.raft_log_model_laws.specs.Item.{Item, Tagged}
use Rattle.raft_log_model_laws.specs.Item.Item.{Run}
use Rattle.raft_log_model_laws.specs.Groups.{of_group}
use Rattle.raft_log_model_laws.specs.Renamed.{renamed, renamed_tagged}
use Rattle.raft_log_record_base.specs.declared.pipe_log.FileBlockHandle.{FileBlockHandle}
use Rattle.raft_log_record_items.specs.declared.entry.EntryIndex.{EntryIndex}
use Rattle.raft_log_record_items.specs.declared.op_type.OpType.{OpType}
use Rattle.raft_log_record_items.specs.declared.op_type.OpType.TheVariants as ops
use Rattle.raft_log_record_items.specs.declared.command.Command.TheVariants as commands
use Rattle.raft_log_record_items.specs.declared.item.LogItem.{LogItem}
use Rattle.raft_log_record_items.specs.declared.item.LogItemContent.{LogItemContent}
use Rattle.raft_log_record_items.specs.declared.item.LogItemContent.TheVariants as contents
use Rattle.raft_log_record_items.specs.Placed.{content_len, entries_len, laid_content, laid_out, laid_run, run_len, written, written_content, written_entry, written_item}
use Rattle.raft_log_record_items.specs.Writing.{value_of}
use Rattle.raft_log_record_frames.specs.Marking.{content_has_mark_key, has_mark_key}
use Rattle.raft_log_record_frames.specs.Meaning.{key_meaning, meaning, tagged, tagged_items, unless_mark}
use Rattle.raft_log_record_batches.specs.Places.{entry_bytes}
use Rattle.raft_log_extents.specs.declared.place.Place.{Place}
use Rattle.raft_log_extents.specs.Entries.{place_of}
use Rattle.raft_log_block_cache.specs.Stored.{Each}

-- the item's places have the property
abbrev pub OfRun : (Place → Type 0) → Item Place (List ℕ) → Type 0
OfRun P (Run f ps) = Each P ps
OfRun P x = Unit {0}

-- an item says the same whether it is written or not, but for its places
written_key : (handle : FileBlockHandle) (offset : ℕ) (c : LogItemContent) → content_has_mark_key (written_content handle (laid_content offset c)) ≡ content_has_mark_key (laid_content offset c)
written_key handle offset (contents.EntryIndexes es) = refl
written_key handle offset (contents.Command c) = refl
written_key handle offset (contents.Kv kv) = refl

marks_same : (handle : FileBlockHandle) (offset : ℕ) (x : LogItem)
    → has_mark_key (written_item handle (record x { content = laid_content offset x.content })) ≡ has_mark_key (record x { content = laid_content offset x.content })
unfolding has_mark_key
marks_same handle offset x = ap (λ (b : Bool). (x.raft_group_id == 0) && b) (written_key handle offset x.content)

key_renamed : {F : Type 0} (f : Place → F) (o : OpType) (k v : List ℕ) → renamed f (key_meaning o k v) ≡ key_meaning o k v
key_renamed f ops.Put k v = refl
key_renamed f ops.Del k v = refl

module _ (handle : FileBlockHandle) (entries : List ℕ) (f : Place → List ℕ) (agree : (e : EntryIndex) → e.entry_offset + e.entry_len ≤ length entries → f (place_of (written_entry handle e)) ≡ entry_bytes entries e) where
  run_says : (offset : ℕ) (es : List EntryIndex) → offset + run_len es ≤ length entries
      → map f (map place_of (map (written_entry handle) (laid_run offset es))) ≡ map (entry_bytes entries) (laid_run offset es)
  run_says offset [] inside = refl
  run_says offset (e ∷ es) inside =
      let whole = sum_by-cons (λ (x : EntryIndex). x.entry_len) e es in
      ap (λ (l : List ℕ). l ∷ map f (map place_of (map (written_entry handle) (laid_run (offset + e.entry_len) es)))) (agree (record e { entry_offset = offset }) (omega (arith, inside, whole)))
      ∙ ap (λ (l : List (List ℕ)). entry_bytes entries (record e { entry_offset = offset }) ∷ l) (run_says (offset + e.entry_len) es (omega (arith, inside, whole)))

  content_says : (offset : ℕ) (c : LogItemContent) → offset + content_len c ≤ length entries
      → renamed f (meaning place_of (written_content handle (laid_content offset c))) ≡ meaning (entry_bytes entries) (laid_content offset c)
  content_says offset (contents.EntryIndexes []) inside = refl
  content_says offset (contents.EntryIndexes (e ∷ es)) inside = ap (λ (l : List (List ℕ)). Run e.index l) (run_says offset (e ∷ es) inside)
  content_says offset (contents.Command commands.Clean) inside = refl
  content_says offset (contents.Command (commands.Compact i)) inside = refl
  content_says offset (contents.Kv kv) inside = key_renamed f kv.op_type kv.key (value_of kv)

  unless_says : (b c : Bool) (x : Tagged Place (List ℕ)) (y : Tagged (List ℕ) (List ℕ)) (xs : List (Tagged Place (List ℕ))) (ys : List (Tagged (List ℕ) (List ℕ)))
      → b ≡ c → renamed_tagged f x ≡ y → map (renamed_tagged f) xs ≡ ys → map (renamed_tagged f) (unless_mark b x xs) ≡ unless_mark c y ys
  unless_says true c x y xs ys is one all = all ∙ ap (λ (b : Bool). unless_mark b y ys) is
  unless_says false c x y xs ys is one all =
      ap (λ (t : Tagged (List ℕ) (List ℕ)). t ∷ map (renamed_tagged f) xs) one ∙ ap (λ (l : List (Tagged (List ℕ) (List ℕ))). y ∷ l) all ∙ ap (λ (b : Bool). unless_mark b y ys) is

  pub items_say : (offset : ℕ) (xs : List LogItem) → offset + entries_len xs ≤ length entries
      → map (renamed_tagged f) (tagged_items place_of (written handle (laid_out offset xs))) ≡ tagged_items (entry_bytes entries) (laid_out offset xs)
  items_say offset [] inside = refl
  items_say offset (x ∷ xs) inside =
      let whole = sum_by-cons (λ (y : LogItem). content_len y.content) x xs in
      let laid : LogItem = record x { content = laid_content offset x.content } in
      unless_says (has_mark_key (written_item handle laid)) (has_mark_key laid) (tagged place_of (written_item handle laid)) (tagged (entry_bytes entries) laid)
      (tagged_items place_of (written handle (laid_out (offset + content_len x.content) xs))) (tagged_items (entry_bytes entries) (laid_out (offset + content_len x.content) xs))
      (marks_same handle offset x)
      (ap (λ (i : Item (List ℕ) (List ℕ)). record { group = x.raft_group_id; item = i }) (content_says offset x.content (omega (arith, inside, whole))))
      (items_say (offset + content_len x.content) xs (omega (arith, inside, whole)))

-- what holds of the place of each entry holds of all places of the items
module _ (handle : FileBlockHandle) (most : ℕ) (P : Place → Type 0) (lies : (e : EntryIndex) → e.entry_offset + e.entry_len ≤ most → P (place_of (written_entry handle e))) where
  run_each : (offset : ℕ) (es : List EntryIndex) → offset + run_len es ≤ most → Each P (map place_of (map (written_entry handle) (laid_run offset es)))
  run_each offset [] inside = tt
  run_each offset (e ∷ es) inside =
      let whole = sum_by-cons (λ (x : EntryIndex). x.entry_len) e es in
      (lies (record e { entry_offset = offset }) (omega (arith, inside, whole)), run_each (offset + e.entry_len) es (omega (arith, inside, whole)))

  key_each : (o : OpType) (k v : List ℕ) → OfRun P (key_meaning o k v)
  key_each ops.Put k v = tt
  key_each ops.Del k v = tt

  content_each : (offset : ℕ) (c : LogItemContent) → offset + content_len c ≤ most → OfRun P (meaning place_of (written_content handle (laid_content offset c)))
  content_each offset (contents.EntryIndexes []) inside = tt
  content_each offset (contents.EntryIndexes (e ∷ es)) inside = run_each offset (e ∷ es) inside
  content_each offset (contents.Command commands.Clean) inside = tt
  content_each offset (contents.Command (commands.Compact i)) inside = tt
  content_each offset (contents.Kv kv) inside = key_each kv.op_type kv.key (value_of kv)

  group_each : (g : ℕ) (b : Bool) (x : Item Place (List ℕ)) (xs : List (Item Place (List ℕ))) → OfRun P x → Each (OfRun P) xs → Each (OfRun P) (if b then x ∷ xs else xs)
  group_each g true x xs one all = (one, all)
  group_each g false x xs one all = all

  unless_each : (b : Bool) (x : Tagged Place (List ℕ)) (xs : List (Tagged Place (List ℕ))) → OfRun P x.item → ((g : ℕ) → Each (OfRun P) (of_group g xs))
      → (g : ℕ) → Each (OfRun P) (of_group g (unless_mark b x xs))
  unless_each true x xs one all g = all g
  unless_each false x xs one all g = group_each g (x.group == g) x.item (of_group g xs) one (all g)

  pub items_each : (offset : ℕ) (xs : List LogItem) → offset + entries_len xs ≤ most → (g : ℕ) → Each (OfRun P) (of_group g (tagged_items place_of (written handle (laid_out offset xs))))
  items_each offset [] inside g = tt
  items_each offset (x ∷ xs) inside g =
      let whole = sum_by-cons (λ (y : LogItem). content_len y.content) x xs in
      let laid : LogItem = record x { content = laid_content offset x.content } in
      unless_each (has_mark_key (written_item handle laid)) (tagged place_of (written_item handle laid)) (tagged_items place_of (written handle (laid_out (offset + content_len x.content) xs)))
      (content_each offset x.content (omega (arith, inside, whole))) (items_each (offset + content_len x.content) xs (omega (arith, inside, whole))) g
