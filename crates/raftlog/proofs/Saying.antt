-- What a batch of the engine says.
use Rattle.std.proofs.Common.{◌≡◌, ◌∙◌, ℕ, Bool, true, false, List, [], ◌∷◌, ◌++◌, length, take, drop, map, Some, refl, sym, ap, append-nil}
use Rattle.std.proofs.Math.Seq.{take-append_seam, drop-append_seam}
use Rattle.std.proofs.lemmas.List.{length-map, map-append}
use Rattle.std.proofs.lemmas.List.Concat.{flat_map-append}
use Rattle.raft_log_model_laws.specs.Item.{Item, Tagged}
use Rattle.raft_log_model_laws.specs.Item.Item.{Run}
use Rattle.raft_log_record_items.specs.declared.command.Command.TheVariants as commands
use Rattle.raft_log_record_items.specs.declared.entry.EntryIndex.{EntryIndex}
use Rattle.raft_log_record_items.specs.declared.item.LogItemContent.{LogItemContent}
use Rattle.raft_log_record_items.specs.declared.item.LogItemContent.TheVariants as contents
use Rattle.raft_log_record_items.specs.declared.item.LogItem.{LogItem}
use Rattle.raft_log_record_items.specs.Placed.{laid_run}
use Rattle.raft_log_record_frames.specs.ItemBatch.{all_entries, content_entries}
use Rattle.raft_log_record_frames.specs.Marking.{has_mark_key, marking_of_items}
use Rattle.raft_log_record_frames.specs.Meaning.{IsUsers, meaning, tagged as tagged_by, tagged_items, unless_mark}
use Rattle.raft_log_record_batches.specs.Batch.{AddsItem, Batch}
use Rattle.raft_log_record_batches.specs.Entries.{entries_item, entries_of}
use Rattle.raft_log_record_batches.specs.EntriesFrom.{AddsFrom, indexes_at}
use Rattle.raft_log_record_batches.specs.Places.{AddsBytes, entry_bytes}
use Rattle.raft_log_judge.specs.declared.change.Change.{Change}
use Rattle.raft_log_judge.specs.declared.change.ChangeKind.TheVariants.{Entries}
use Rattle.raft_log_judge.specs.Changes.{tagged}
use Rattle.raftlog.specs.Batches.{AddsChange, HasChanges}
use Rattle.raftlog.proofs.Marks.{no_mark_key, stays_plain}

-- Items.

module _ {E : Type 0} (entry : EntryIndex → E) where
  unless_push : (b : Bool) (t : Tagged E (List ℕ)) (xs ys : List (Tagged E (List ℕ))) → unless_mark b t (xs ++ ys) ≡ unless_mark b t xs ++ ys
  unless_push true t xs ys = refl
  unless_push false t xs ys = refl

  tagged_push : (xs : List LogItem) (x : LogItem) → tagged_items entry (xs ++ x ∷ []) ≡ tagged_items entry xs ++ unless_mark (has_mark_key x) (tagged_by entry x) []
  tagged_push [] x = refl
  tagged_push (y ∷ ys) x =
      ap (λ (l : List (Tagged E (List ℕ))). unless_mark (has_mark_key y) (tagged_by entry y) l) (tagged_push ys x)
      ∙ unless_push (has_mark_key y) (tagged_by entry y) (tagged_items entry ys) (unless_mark (has_mark_key x) (tagged_by entry x) [])

  -- one more item of a user
  tagged_users : (xs : List LogItem) (x : LogItem) → IsUsers x.content → tagged_items entry (xs ++ x ∷ []) ≡ tagged_items entry xs ++ tagged_by entry x ∷ []
  tagged_users xs x own = tagged_push xs x ∙ ap (λ (b : Bool). tagged_items entry xs ++ unless_mark b (tagged_by entry x) []) (no_mark_key x own)

-- Entries.

-- two lists whose fronts have the same length are the same if both parts are
cancel : {A : Type 0} (xs ys us vs : List A) → length xs ≡ length ys → xs ++ us ≡ ys ++ vs → (xs ≡ ys) × (us ≡ vs)
cancel xs ys us vs same h = (
  sym (take-append_seam xs us) ∙ ap (take (length xs)) h ∙ ap (λ n. take n (ys ++ vs)) same ∙ take-append_seam ys vs,
  sym (drop-append_seam xs us) ∙ ap (drop (length xs)) h ∙ ap (λ n. drop n (ys ++ vs)) same ∙ drop-append_seam ys vs,
)

-- entries that have the same bytes mean the same
content_same : (f g : EntryIndex → List ℕ) (c : LogItemContent) → map f (content_entries c) ≡ map g (content_entries c) → meaning f c ≡ meaning g c
content_same f g (contents.EntryIndexes []) h = refl
content_same f g (contents.EntryIndexes (e ∷ es)) h = ap (λ (l : List (List ℕ)). Run e.index l) h
content_same f g (contents.Command commands.Clean) h = refl
content_same f g (contents.Command (commands.Compact index)) h = refl
content_same f g (contents.Kv kv) h = refl

same_count : (f g : EntryIndex → List ℕ) (es : List EntryIndex) → length (map f es) ≡ length (map g es)
same_count f g es = length-map es f ∙ sym (length-map es g)

items_same : (f g : EntryIndex → List ℕ) (xs : List LogItem) → map f (all_entries xs) ≡ map g (all_entries xs) → tagged_items f xs ≡ tagged_items g xs
items_same f g [] h = refl
items_same f g (x ∷ xs) h =
    let own : List EntryIndex = content_entries x.content in
    let parted : map f own ++ map f (all_entries xs) ≡ map g own ++ map g (all_entries xs) =
    sym (map-append f own (all_entries xs)) ∙ h ∙ map-append g own (all_entries xs) in
    let both = cancel (map f own) (map g own) (map f (all_entries xs)) (map g (all_entries xs)) (same_count f g own) parted in
    ap (λ (item : Item (List ℕ) (List ℕ)). unless_mark (has_mark_key x) (record { group = x.raft_group_id; item = item }) (tagged_items f xs)) (content_same f g x.content both.0)
    ∙ ap (λ (l : List (Tagged (List ℕ) (List ℕ))). unless_mark (has_mark_key x) (tagged_by g x) l) (items_same f g xs both.1)

-- Batches.

-- the items of a batch with one more that has the meaning of a change
one_more : (old new : Batch) (item : LogItem) (change : Change) (changes : List Change) → IsUsers item.content → new.items ≡ old.items ++ item ∷ [] → new.state ≡ old.state
    → tagged_items (entry_bytes new.entries) old.items ≡ tagged_items (entry_bytes old.entries) old.items → tagged_by (entry_bytes new.entries) item ≡ tagged change
    → HasChanges old changes → HasChanges new (changes ++ change ∷ [])
one_more old new item change changes own items state stays means has =
    let f : EntryIndex → List ℕ = entry_bytes new.entries in
    record {
      filling = state ∙ has.filling;
      plain = ap marking_of_items items ∙ stays_plain old.items item own has.plain;
      says =
          ap (tagged_items f) items ∙ tagged_users f old.items item own
          ∙ ap (λ (l : List (Tagged (List ℕ) (List ℕ))). l ++ tagged_by f item ∷ []) (stays ∙ has.says)
          ∙ ap (λ (x : Tagged (List ℕ) (List ℕ)). map tagged changes ++ x ∷ []) means ∙ sym (map-append tagged changes (change ∷ []));
    }

-- an item without entries
pub adds_item : (old new : Batch) (item : LogItem) (change : Change) → IsUsers item.content → ((f : EntryIndex → List ℕ) → tagged_by f item ≡ tagged change)
    → AddsItem old new item → AddsChange old new change
adds_item old new item change own means adds changes has =
    one_more old new item change changes own (ap (λ (b : Batch). b.items) adds.0) (ap (λ (b : Batch). b.state) adds.0)
    (ap (λ (b : Batch). tagged_items (entry_bytes b.entries) old.items) adds.0) (means (entry_bytes new.entries)) has

-- entries, at least one
pub adds_entries : (old new : Batch) (group first : ℕ) (texts : List (List ℕ)) (change : Change) → (texts ≡ [] → ⊥) → change ≡ record { group = group; kind = Entries first texts }
    → AddsFrom old new group first texts → AddsBytes old new texts → AddsChange old new change
adds_entries old new group first [] change some is adds bytes changes has = absurd (some refl)
adds_entries old new group first (t ∷ ts) change some is adds bytes changes has =
    let texts : List (List ℕ) = t ∷ ts in
    let f : EntryIndex → List ℕ = entry_bytes new.entries in
    let g : EntryIndex → List ℕ = entry_bytes old.entries in
    let run : List EntryIndex = laid_run (length old.entries) (entries_of (indexes_at first texts) texts) in
    let item : LogItem = entries_item group (length old.entries) (indexes_at first texts) texts in
    let items : new.items ≡ old.items ++ item ∷ [] = ap (λ (b : Batch). b.items) adds.0 in
    let all : all_entries new.items ≡ all_entries old.items ++ run =
    ap all_entries items ∙ flat_map-append (λ (x : LogItem). content_entries x.content) old.items (item ∷ []) ∙ ap (λ (l : List EntryIndex). all_entries old.items ++ l) (append-nil run) in
    let parted : map f (all_entries old.items) ++ map f run ≡ map g (all_entries old.items) ++ texts =
    sym (map-append f (all_entries old.items) run) ∙ ap (map f) (sym all) ∙ bytes in
    let both = cancel (map f (all_entries old.items)) (map g (all_entries old.items)) (map f run) texts (same_count f g (all_entries old.items)) parted in
    one_more old new item change changes tt items (ap (λ (b : Batch). b.state) adds.0) (items_same f g old.items both.0)
    (ap (λ (l : List (List ℕ)). record { group = group; item = Run first l }) both.1 ∙ ap tagged (sym is)) has
