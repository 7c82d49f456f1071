-- Tables that are ready for a batch take it item by item.
use Rattle.std.proofs.Common.{◌≡◌, ℕ, ◌==◌, ◌&&◌, Bool, true, false, if◌then◌else◌, List, [], ◌∷◌, map, refl, sym, ap, subst, ◌∙◌, arith}
use Rattle.raft_log_model_laws.specs.Item.{Item, Tagged}
use Rattle.raft_log_model_laws.specs.Item.Item.{Run}
use Rattle.raft_log_model_laws.specs.Groups.{of_group}
use Rattle.raft_log_model_laws.specs.Renamed.{renamed, renamed_tagged}
use Rattle.raft_log_model_laws.proofs.Public.{of_group_renamed}
use Rattle.raft_log_record_items.specs.declared.entry.EntryIndex.{EntryIndex}
use Rattle.raft_log_record_items.specs.declared.op_type.OpType.{OpType}
use Rattle.raft_log_record_items.specs.declared.op_type.OpType.TheVariants as ops
use Rattle.raft_log_record_items.specs.declared.command.Command.TheVariants as commands
use Rattle.raft_log_record_items.specs.declared.item.LogItem.{LogItem}
use Rattle.raft_log_record_items.specs.declared.item.LogItemContent.{LogItemContent}
use Rattle.raft_log_record_items.specs.declared.item.LogItemContent.TheVariants as contents
use Rattle.raft_log_record_items.specs.Writing.{value_of}
use Rattle.raft_log_record_base.specs.declared.pipe_log.FileBlockHandle.{FileBlockHandle}
use Rattle.raft_log_record_items.specs.Placed.{written, written_content, written_entry, written_item}
use Rattle.raft_log_record_frames.specs.Marking.{content_has_mark_key, has_mark_key}
use Rattle.raft_log_record_frames.specs.Meaning.{key_meaning, meaning, tagged, tagged_items, unless_mark}
use Rattle.raft_log_extents.specs.declared.place.Place.{Place}
use Rattle.raft_log_memtable_index.specs.Shown.{Shown, IsOrderly, stepped, all_stepped, whereabouts}
use Rattle.raft_log_model_laws.specs.Groups.{Map}
use Rattle.raft_log_model_laws.specs.Meaning.{after}
use Rattle.raft_log_machine_laws.specs.Whereabouts.{GrowsBy}
use Rattle.raft_log_extents.specs.Entries.{place_of}
use Rattle.raft_log_memtable_index.specs.Bridge.{in_queue, IsMeant, Located}
use Rattle.raft_log_memtable_index.proofs.Public.{batch_grows, batch_meant, orderly_after}
use Rattle.raft_log_memtable.specs.Room.{Promise, kept, IsReady, CanTake}
use Rattle.raft_log_memtable.proofs.Public.{ready_can, ready_next, ready_renamed}
use Rattle.raft_log_memtables.specs.declared.mem_tables.MemTables.{MemTables}
use Rattle.raft_log_memtables.specs.Tables.{shown_of, promise_of, has_table, counts}
use Rattle.raft_log_memtables.specs.Batch.{all_shown, all_written, MayFollowAll, counts_after, counts_at_end, GroupsPass, IsApplied, IsReadyFor}
use Rattle.raft_log_memtables.proofs.Ready.{by_group, same_or_apart}

-- What stands for an entry doesn't matter.
module _ {E F : Type 0} (f : E → F) where
  pass_renamed : {V : Type 0} (p : ℕ → Bool) (xs : List (Tagged E V)) → GroupsPass p xs → GroupsPass p (map (renamed_tagged f) xs)
  pass_renamed p [] h = tt
  pass_renamed p (x ∷ xs) h = (h.0, pass_renamed p xs h.1)

  pub all_ready_renamed : {V : Type 0} (m : MemTables) (xs : List (Tagged E V)) → IsReadyFor m xs → IsReadyFor m (map (renamed_tagged f) xs)
  all_ready_renamed {V = V} m xs r = record {
    tables = pass_renamed (has_table m) xs r.tables;
    groups = λ g. subst (λ (l : List (Item F V)). IsReady (shown_of m g) (promise_of m g) l) (sym (of_group_renamed f g xs)) (ready_renamed f (shown_of m g) (promise_of m g) (of_group g xs) (r.groups g));
  }

module _ {F : Type 0} (f : EntryIndex → F) where
  entries_renamed : (es : List EntryIndex) → map f (map (λ e. e) es) ≡ map f es
  entries_renamed [] = refl
  entries_renamed (e ∷ es) = ap (λ l. f e ∷ l) (entries_renamed es)

  key_renamed : (o : OpType) (k v : List ℕ) → renamed f (key_meaning o k v) ≡ key_meaning o k v
  key_renamed ops.Put k v = refl
  key_renamed ops.Del k v = refl

  meaning_renamed : (c : LogItemContent) → renamed f (meaning (λ e. e) c) ≡ meaning f c
  meaning_renamed (contents.EntryIndexes []) = refl
  meaning_renamed (contents.EntryIndexes (e ∷ es)) = ap (λ (l : List F). Run e.index (f e ∷ l)) (entries_renamed es)
  meaning_renamed (contents.Command commands.Clean) = refl
  meaning_renamed (contents.Command (commands.Compact i)) = refl
  meaning_renamed (contents.Kv kv) = key_renamed kv.op_type kv.key (value_of kv)

  unless_renamed : (b : Bool) (x : LogItem) (xs : List (Tagged EntryIndex (List ℕ))) (ys : List (Tagged F (List ℕ))) → map (renamed_tagged f) xs ≡ ys
      → map (renamed_tagged f) (unless_mark b (tagged (λ e. e) x) xs) ≡ unless_mark b (tagged f x) ys
  unless_renamed true x xs ys h = h
  unless_renamed false x xs ys h =
      ap (λ (i : Item F (List ℕ)). record { group = x.raft_group_id; item = i } ∷ map (renamed_tagged f) xs) (meaning_renamed x.content)
      ∙ ap (λ (l : List (Tagged F (List ℕ))). tagged f x ∷ l) h

  pub items_renamed : (xs : List LogItem) → map (renamed_tagged f) (tagged_items (λ e. e) xs) ≡ tagged_items f xs
  items_renamed [] = refl
  items_renamed (x ∷ xs) = unless_renamed (has_mark_key x) x (tagged_items (λ e. e) xs) (tagged_items f xs) (items_renamed xs)

  -- tables that are ready for items are so whatever stands for their entries
  pub ready_for : (m : MemTables) (xs : List LogItem) → IsReadyFor m (tagged_items (λ e. e) xs) → IsReadyFor m (tagged_items f xs)
  ready_for m xs r = subst (λ (l : List (Tagged F (List ℕ))). IsReadyFor m l) (items_renamed xs) (all_ready_renamed f m (tagged_items (λ e. e) xs) r)

-- An item that is written says the same of the places.
content_marks : (handle : FileBlockHandle) (c : LogItemContent) → content_has_mark_key (written_content handle c) ≡ content_has_mark_key c
content_marks handle (contents.EntryIndexes es) = refl
content_marks handle (contents.Command c) = refl
content_marks handle (contents.Kv kv) = refl

written_marks : (handle : FileBlockHandle) (x : LogItem) → has_mark_key (written_item handle x) ≡ has_mark_key x
unfolding has_mark_key
written_marks handle x = ap (λ (b : Bool). (x.raft_group_id == 0) && b) (content_marks handle x.content)

same_run : (i : ℕ) (e : EntryIndex) {xs ys : List EntryIndex} → xs ≡ ys → ◌≡◌ {A = Item EntryIndex (List ℕ)} (Run i (e ∷ xs)) (Run i (e ∷ ys))
same_run i e h = ap (λ (l : List EntryIndex). Run i (e ∷ l)) h

written_meaning : (handle : FileBlockHandle) (c : LogItemContent) → meaning (λ e. e) (written_content handle c) ≡ meaning (written_entry handle) c
written_meaning handle (contents.EntryIndexes []) = refl
written_meaning handle (contents.EntryIndexes (e ∷ es)) =
    same_run e.index (written_entry handle e) (entries_same (map (written_entry handle) es))
  where
    entries_same : (l : List EntryIndex) → map (λ e. e) l ≡ l
    entries_same [] = refl
    entries_same (d ∷ l) = ap (λ k. d ∷ k) (entries_same l)
written_meaning handle (contents.Command commands.Clean) = refl
written_meaning handle (contents.Command (commands.Compact i)) = refl
written_meaning handle (contents.Kv kv) = refl

unless_same : (b c : Bool) (x y : Tagged EntryIndex (List ℕ)) (xs ys : List (Tagged EntryIndex (List ℕ))) → b ≡ c → x ≡ y → xs ≡ ys → unless_mark b x xs ≡ unless_mark c y ys
unless_same b c x y xs ys h i j = ap (λ (t : Bool). unless_mark t x xs) h ∙ ap (λ (z : Tagged EntryIndex (List ℕ)). unless_mark c z xs) i ∙ ap (unless_mark c y) j

pub written_items : (handle : FileBlockHandle) (xs : List LogItem) → tagged_items (λ e. e) (written handle xs) ≡ tagged_items (written_entry handle) xs
written_items handle [] = refl
written_items handle (x ∷ xs) =
    unless_same (has_mark_key (written_item handle x)) (has_mark_key x) (tagged (λ e. e) (written_item handle x)) (tagged (written_entry handle) x)
    (tagged_items (λ e. e) (written handle xs)) (tagged_items (written_entry handle) xs) (written_marks handle x)
    (ap (λ (i : Item EntryIndex (List ℕ)). record { group = x.raft_group_id; item = i }) (written_meaning handle x.content)) (written_items handle xs)

pub ready_written : (m : MemTables) (handle : FileBlockHandle) (xs : List LogItem) → IsReadyFor m (tagged_items (λ e. e) xs) → IsReadyFor m (tagged_items (λ e. e) (written handle xs))
ready_written m handle xs r =
    subst (λ (l : List (Tagged EntryIndex (List ℕ))). IsReadyFor m l) (sym (written_items handle xs)) (ready_for (written_entry handle) m xs r)

module _ (n : ℕ) (m k : MemTables) (x : Tagged Place (List ℕ)) (xs : List (Tagged Place (List ℕ))) where
  here : (g : ℕ) → (x.group == g) ≡ true → of_group g (x ∷ xs) ≡ x.item ∷ of_group g xs
  here g t = ap (λ (b : Bool). if b then x.item ∷ of_group g xs else of_group g xs) t

  there : (g : ℕ) → (x.group == g) ≡ false → of_group g (x ∷ xs) ≡ of_group g xs
  there g t = ap (λ (b : Bool). if b then x.item ∷ of_group g xs else of_group g xs) t

  ready_at : IsReadyFor m (x ∷ xs) → (g : ℕ) → (x.group == g) ≡ true → IsReady (shown_of m g) (promise_of m g) (x.item ∷ of_group g xs)
  ready_at r g t = subst (λ (l : List (Item Place (List ℕ))). IsReady (shown_of m g) (promise_of m g) l) (here g t) (r.groups g)

  itself : (x.group == x.group) ≡ true
  itself = grind (arith)

  -- the first item can be taken
  pub first_can : IsReadyFor m (x ∷ xs) → CanTake (shown_of m x.group) (promise_of m x.group) x.item
  first_can r = ready_can (shown_of m x.group) (promise_of m x.group) x.item (of_group x.group xs) (ready_at r x.group itself)

  pass_on : (ys : List (Tagged Place (List ℕ))) → IsApplied n m k x → GroupsPass (has_table m) ys → GroupsPass (has_table k) ys
  pass_on [] a h = tt
  pass_on (y ∷ ys) a h = (a.tables y.group ∙ h.0, pass_on ys a h.1)

  -- and then the tables are ready for the others
  pub others_ready : IsReadyFor m (x ∷ xs) → IsApplied n m k x → IsReadyFor k xs
  others_ready r a = record {
    tables = pass_on xs a r.tables.1;
    groups = λ g. by_group x.group g (same_or_apart x.group g)
        (λ t is.
        subst (λ (v : Shown). IsReady v (promise_of k g) (of_group g xs)) (sym (subst (λ (j : ℕ). shown_of k j ≡ stepped n (shown_of m j) x.item) is a.shows))
        (subst (λ (q : Promise). IsReady (stepped n (shown_of m g) x.item) q (of_group g xs)) (sym (subst (λ (j : ℕ). promise_of k j ≡ kept (promise_of m j) x.item) is a.promise))
        (ready_next n (shown_of m g) (promise_of m g) x.item (of_group g xs) (ready_at r g t))))
        (λ t.
        subst (λ (v : Shown). IsReady v (promise_of k g) (of_group g xs)) (sym (a.others g t).0)
        (subst (λ (q : Promise). IsReady (shown_of m g) q (of_group g xs)) (sym (a.others g t).1)
        (subst (λ (l : List (Item Place (List ℕ))). IsReady (shown_of m g) (promise_of m g) l) (there g t) (r.groups g))));
  }

  pub shown_next : IsApplied n m k x → (g : ℕ) → all_shown n (shown_of k) xs g ≡ all_shown n (shown_of m) (x ∷ xs) g
  shown_next a g = by_group x.group g (same_or_apart x.group g)
      (λ t is. ap (λ (v : Shown). all_stepped n v (of_group g xs)) (subst (λ (j : ℕ). shown_of k j ≡ stepped n (shown_of m j) x.item) is a.shows) ∙ sym (ap (all_stepped n (shown_of m g)) (here g t)))
      (λ t. ap (λ (v : Shown). all_stepped n v (of_group g xs)) (a.others g t).0 ∙ sym (ap (all_stepped n (shown_of m g)) (there g t)))

  pub counts_next : IsApplied n m k x → (g : ℕ) → counts_at_end (counts k g) (of_group g xs) ≡ counts_at_end (counts m g) (of_group g (x ∷ xs))
  counts_next a g = by_group x.group g (same_or_apart x.group g)
      (λ t is. ap (λ (b : Bool). counts_at_end b (of_group g xs)) (subst (λ (j : ℕ). counts k j ≡ counts_after (counts m j) x.item) is a.counting) ∙ sym (ap (counts_at_end (counts m g)) (here g t)))
      (λ t. ap (λ (b : Bool). counts_at_end b (of_group g xs)) (a.others g t).2 ∙ sym (ap (counts_at_end (counts m g)) (there g t)))

-- The same with an item that may be a mark, which says nothing.
module _ (n : ℕ) (m k : MemTables) (x : LogItem) (xs : List LogItem) where
  pub first_has : has_mark_key x ≡ false → IsReadyFor m (tagged_items place_of (x ∷ xs)) → has_table m x.raft_group_id ≡ true
  first_has plain r =
      let all = subst (λ (b : Bool). IsReadyFor m (unless_mark b (tagged place_of x) (tagged_items place_of xs))) plain r in
      all.tables.0

  pub first_takes : has_mark_key x ≡ false → IsReadyFor m (tagged_items place_of (x ∷ xs)) → CanTake (shown_of m x.raft_group_id) (promise_of m x.raft_group_id) (meaning place_of x.content)
  first_takes plain r =
      first_can n m k (tagged place_of x) (tagged_items place_of xs) (subst (λ (b : Bool). IsReadyFor m (unless_mark b (tagged place_of x) (tagged_items place_of xs))) plain r)

  module _ (mark : has_mark_key x ≡ true → k ≡ m) (applied : has_mark_key x ≡ false → IsApplied n m k (tagged place_of x)) where
    pub ready_on : IsReadyFor m (tagged_items place_of (x ∷ xs)) → IsReadyFor k (tagged_items place_of xs)
    ready_on r = either (has_mark_key x) refl r
      where
        either : (b : Bool) → has_mark_key x ≡ b → IsReadyFor m (unless_mark b (tagged place_of x) (tagged_items place_of xs)) → IsReadyFor k (tagged_items place_of xs)
        either true h s = subst (λ (t : MemTables). IsReadyFor t (tagged_items place_of xs)) (sym (mark h)) s
        either false h s = others_ready n m k (tagged place_of x) (tagged_items place_of xs) s (applied h)

    pub shown_on : (g : ℕ) → all_shown n (shown_of k) (tagged_items place_of xs) g ≡ all_shown n (shown_of m) (tagged_items place_of (x ∷ xs)) g
    shown_on g = either (has_mark_key x) refl
      where
        either : (b : Bool) → has_mark_key x ≡ b → all_shown n (shown_of k) (tagged_items place_of xs) g ≡ all_shown n (shown_of m) (unless_mark b (tagged place_of x) (tagged_items place_of xs)) g
        either true h = ap (λ (t : MemTables). all_shown n (shown_of t) (tagged_items place_of xs) g) (mark h)
        either false h = shown_next n m k (tagged place_of x) (tagged_items place_of xs) (applied h) g

    pub counts_on : (g : ℕ) → counts_at_end (counts k g) (of_group g (tagged_items place_of xs)) ≡ counts_at_end (counts m g) (of_group g (tagged_items place_of (x ∷ xs)))
    counts_on g = either (has_mark_key x) refl
      where
        either : (b : Bool) → has_mark_key x ≡ b
            → counts_at_end (counts k g) (of_group g (tagged_items place_of xs)) ≡ counts_at_end (counts m g) (of_group g (unless_mark b (tagged place_of x) (tagged_items place_of xs)))
        either true h = ap (λ (t : MemTables). counts_at_end (counts t g) (of_group g (tagged_items place_of xs))) (mark h)
        either false h = counts_next n m k (tagged place_of x) (tagged_items place_of xs) (applied h) g

-- What a batch does in one group it does in all.
module _ {E : Type 0} (at : Located → E) (n : ℕ) (v : ℕ → Shown) (xs : List (Tagged Place (List ℕ))) (orderly : (g : ℕ) → IsOrderly (v g)) (follows : MayFollowAll v xs) where
  pub all_grow : (g : ℕ) → GrowsBy (whereabouts (v g)) (of_group g (all_written at xs)) (whereabouts (all_shown n v xs g))
  all_grow g =
      subst (λ (l : List (Item E (List ℕ))). GrowsBy (whereabouts (v g)) l (whereabouts (all_shown n v xs g))) (sym (of_group_renamed (λ p. at (in_queue true p)) g xs))
      (batch_grows at n (v g) (of_group g xs) (orderly g) (follows g))

  pub all_meant : (m : Map E (List ℕ)) → ((g : ℕ) → IsMeant at (v g) (m g)) → (g : ℕ) → IsMeant at (all_shown n v xs g) (after (m g) (of_group g (all_written at xs)))
  all_meant m meant g =
      subst (λ (l : List (Item E (List ℕ))). IsMeant at (all_shown n v xs g) (after (m g) l)) (sym (of_group_renamed (λ p. at (in_queue true p)) g xs))
      (batch_meant at n (v g) (of_group g xs) (m g) (orderly g) (follows g) (meant g))

pub all_orderly : (n : ℕ) (v : ℕ → Shown) (xs : List (Tagged Place (List ℕ))) → ((g : ℕ) → IsOrderly (v g)) → MayFollowAll v xs → (g : ℕ) → IsOrderly (all_shown n v xs g)
all_orderly n v xs orderly follows g = orderly_after n (v g) (of_group g xs) (orderly g) (follows g)
