-- What stands for an entry doesn't matter to what may follow, and what stands for a place may be told by its
-- entry.
use Rattle.std.proofs.Common.{◌≡◌, ℕ, ◌+◌, ◌≤◌, true, ◌&&◌, List, [], ◌∷◌, length, map, refl, sym, ap, subst, ◌∙◌, if◌then◌else◌, nat_lt}
use Rattle.std.proofs.lemmas.List.{length-map}
use std.Path.{fun_ext}
use Rattle.raft_log_model_laws.specs.Item.{Item, Tagged}
use Rattle.raft_log_model_laws.specs.Item.Item.{Run, Clean, Compact, Put, Del}
use Rattle.raft_log_model_laws.specs.Holes.{Window}
use Rattle.raft_log_model_laws.specs.Groups.{of_group}
use Rattle.raft_log_model_laws.specs.Renamed.{renamed, renamed_tagged}
use Rattle.raft_log_model_laws.proofs.Public.{of_group_renamed}
use Rattle.raft_log_machine_laws.specs.Whereabouts.{top}
use Rattle.raft_log_record_base.specs.declared.pipe_log.FileBlockHandle.{FileBlockHandle}
use Rattle.raft_log_record_items.specs.declared.item.LogItem.{LogItem}
use Rattle.raft_log_record_items.specs.declared.entry.EntryIndex.{EntryIndex}
use Rattle.raft_log_record_items.specs.Placed.{written, written_entry}
use Rattle.raft_log_record_frames.specs.Meaning.{tagged_items}
use Rattle.raft_log_extents.specs.Entries.{place_of}
use Rattle.raft_log_extents.specs.declared.place.Place.{Place}
use Rattle.raft_log_memtable_index.specs.Shown.{Shown, next_span, span, MayAllFollow, MayFollow}
use Rattle.raft_log_memtable_index.specs.Bridge.{Located, in_queue}
use Rattle.raft_log_block_cache.specs.raft_log_memtables.specs.Batch.{MayFollowAll, all_written}
use Rattle.raft_log_block_cache.specs.raft_log_memtables.proofs.Public.{items_renamed, written_items}

module _ {E F V : Type 0} (f : E → F) where
  span_renamed : (w : Window) (x : Item E V) → next_span w (renamed f x) ≡ next_span w x
  span_renamed w (Run n []) = refl
  span_renamed w (Run n (e ∷ es)) =
      ap (λ k. record { first = if nat_lt w.first n && nat_lt w.first w.end then w.first else n; end = n + k }) (length-map (e ∷ es) f)
  span_renamed w Clean = refl
  span_renamed w (Compact c) = refl
  span_renamed w (Put k v) = refl
  span_renamed w (Del k) = refl

  follow_renamed : (w : Window) (x : Item E V) → MayFollow w x → MayFollow w (renamed f x)
  follow_renamed w (Run n []) h = (tt, h.1)
  follow_renamed w (Run n (e ∷ es)) h = (h.0, subst (λ l. n + l ≤ top) (sym (length-map (e ∷ es) f)) h.1)
  follow_renamed w Clean h = h
  follow_renamed w (Compact c) h = h
  follow_renamed w (Put k v) h = h
  follow_renamed w (Del k) h = h

  all_renamed : (w : Window) (xs : List (Item E V)) → MayAllFollow w xs → MayAllFollow w (map (renamed f) xs)
  all_renamed w [] h = tt
  all_renamed w (x ∷ xs) h =
      (follow_renamed w x h.0, subst (λ u. MayAllFollow u (map (renamed f) xs)) (sym (span_renamed w x)) (all_renamed (next_span w x) xs h.1))

  -- what may follow in each group may, whatever stands for the entries
  pub follow_all : (v : ℕ → Shown) (xs : List (Tagged E V)) → MayFollowAll v xs → MayFollowAll v (map (renamed_tagged f) xs)
  follow_all v xs h g = subst (λ (l : List (Item F V)). MayAllFollow (span (v g)) l) (sym (of_group_renamed f g xs)) (all_renamed (span (v g)) (of_group g xs) (h g))

entries_twice : {E F G : Type 0} (f : F → G) (h : E → F) (es : List E) → map f (map h es) ≡ map (λ e. f (h e)) es
entries_twice f h [] = refl
entries_twice f h (e ∷ es) = ap (λ l. f (h e) ∷ l) (entries_twice f h es)

module _ {E F G V : Type 0} (f : F → G) (h : E → F) where
  item_twice : (x : Item E V) → renamed f (renamed h x) ≡ renamed (λ e. f (h e)) x
  item_twice (Run n es) = ap (λ (l : List G). Run n l) (entries_twice f h es)
  item_twice Clean = refl
  item_twice (Compact c) = refl
  item_twice (Put k v) = refl
  item_twice (Del k) = refl

  pub twice : (xs : List (Tagged E V)) → map (renamed_tagged f) (map (renamed_tagged h) xs) ≡ map (renamed_tagged (λ e. f (h e))) xs
  twice [] = refl
  twice (x ∷ xs) =
      ap (λ (i : Item G V). record { group = x.group; item = i } ∷ map (renamed_tagged f) (map (renamed_tagged h) xs)) (item_twice x.item)
      ∙ ap (λ l. renamed_tagged (λ e. f (h e)) x ∷ l) (twice xs)

-- the items of a batch at their places are those of the batch, each entry told by its place
pub placed_items : (handle : FileBlockHandle) (xs : List LogItem) → tagged_items place_of (written handle xs) ≡ map (renamed_tagged (λ e. place_of (written_entry handle e))) (tagged_items (λ e. e) xs)
placed_items handle xs =
    sym (items_renamed place_of (written handle xs))
    ∙ ap (λ (l : List (Tagged EntryIndex (List ℕ))). map (renamed_tagged place_of) l) (written_items handle xs ∙ sym (items_renamed (written_entry handle) xs))
    ∙ twice place_of (written_entry handle) (tagged_items (λ e. e) xs)

-- so they may follow where the batch's may
pub places_follow : (handle : FileBlockHandle) (v : ℕ → Shown) (xs : List LogItem) → MayFollowAll v (tagged_items (λ e. e) xs) → MayFollowAll v (tagged_items place_of (written handle xs))
places_follow handle v xs h =
    subst (λ (l : List (Tagged Place (List ℕ))). MayFollowAll v l) (sym (placed_items handle xs)) (follow_all (λ e. place_of (written_entry handle e)) v (tagged_items (λ e. e) xs) h)

-- what they say, where the bytes at each place are those of the entry
pub places_say : {F : Type 0} (at : Located → F) (h : EntryIndex → F) (handle : FileBlockHandle) (xs : List LogItem) → ((e : EntryIndex) → at (in_queue true (place_of (written_entry handle e))) ≡ h e)
    → all_written at (tagged_items place_of (written handle xs)) ≡ tagged_items h xs
places_say {F = F} at h handle xs same =
    ap (λ (l : List (Tagged Place (List ℕ))). map (renamed_tagged (λ p. at (in_queue true p))) l) (placed_items handle xs)
    ∙ twice (λ p. at (in_queue true p)) (λ e. place_of (written_entry handle e)) (tagged_items (λ e. e) xs)
    ∙ ap (λ (k : EntryIndex → F). map (renamed_tagged k) (tagged_items (λ e. e) xs)) (fun_ext same)
    ∙ items_renamed h xs
