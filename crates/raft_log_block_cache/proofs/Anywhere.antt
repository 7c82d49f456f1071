-- Before a batch is written, the view can go on by it in whichever file.
use Rattle.std.proofs.Common.{◌≡◌, ℕ, suc, ◌+◌, ◌≤◌, ◌<◌, Bool, true, false, cond, List, [], ◌∷◌, length, map, inl, inr, refl, sym, ap, subst, ◌∙◌, arith, nat_eq}
use Rattle.std.specs.Prelude.{if◌then◌else◌, nat_lt, ◌&&◌}
use Rattle.std.proofs.lemmas.Bool.{cases_Bool}
use Rattle.std.proofs.lemmas.Bool.Decides.{Decides-eqb}
use Rattle.raft_log_model_laws.specs.Item.{Item, Record, Tagged, items_of}
use Rattle.raft_log_model_laws.specs.Item.Item.{Run, Clean, Compact, Put, Del}
use Rattle.raft_log_model_laws.specs.Holes.{Window}
use Rattle.raft_log_model_laws.specs.Groups.{Map, of_group, taken}
use Rattle.raft_log_model_laws.specs.Renamed.{renamed, renamed_tagged}
use Rattle.raft_log_model_laws.proofs.Public.{of_group_renamed}
use Rattle.std.proofs.lemmas.List.{length-map}
use Rattle.raft_log_machine_laws.specs.Log.{View}
use Rattle.raft_log_machine_laws.specs.Tables.{GrowsTo}
use Rattle.raft_log_record_base.specs.declared.pipe_log.LogQueue.TheVariants.{Append}
use Rattle.raft_log_record_base.specs.declared.pipe_log.FileBlockHandle.{FileBlockHandle}
use Rattle.raft_log_record_items.specs.declared.entry.EntryIndex.{EntryIndex}
use Rattle.raft_log_record_items.specs.declared.item.LogItem.{LogItem}
use Rattle.raft_log_record_items.specs.Placed.{written, written_entry}
use Rattle.raft_log_record_frames.specs.Meaning.{tagged_items}
use Rattle.raft_log_record_batches.specs.Places.{entry_bytes}
use Rattle.raft_log_extents.specs.declared.place.Place.{Place}
use Rattle.raft_log_extents.specs.Entries.{place_of}
use Rattle.raft_log_memtable_index.specs.Shown.{MayAllFollow, MayFollow, Shown, next_span, span}
use Rattle.raft_log_memtable_index.specs.Bridge.{Located, in_queue, located}
use Rattle.raft_log_memtables.specs.Batch.{MayFollowAll, all_shown, all_written}
use Rattle.raft_log_memtables.proofs.Public.{items_renamed, view_grows, written_in, written_items}
use Rattle.raft_log_dual_pipes.specs.State.{LogOnDisk}
use Rattle.raft_log_memtables.specs.Views.{AreMeant, view_of}
use Rattle.raft_log_block_cache.specs.Stored.{AreStored, Each, EntryLiesIn, IsStored, entries_at, file_bytes, part, queue_in}
use Rattle.raft_log_block_cache.specs.Written.{AnyFileMayTakeIt, IsLaidOver}
use Rattle.raft_log_block_cache.proofs.Laid.{items_say}
use Rattle.raft_log_block_cache.proofs.Staying.{means_alike}

-- items may come whatever stands for their entries
follow_renamed : {E F V : Type 0} (f : E → F) (w : Window) (x : Item E V) → MayFollow w x → MayFollow w (renamed f x)
follow_renamed f w (Run n []) may = may
follow_renamed f w (Run n (e ∷ es)) may = (may.0, (let fits = may.1 in let same = length-map (e ∷ es) f in omega (arith, fits, same)))
follow_renamed f w Clean may = may
follow_renamed f w (Compact c) may = may
follow_renamed f w (Put k v) may = may
follow_renamed f w (Del k) may = may

same_end : (first n k j : ℕ) → k ≡ j → ◌≡◌ {A = Window} (record { first = first; end = n + k }) (record { first = first; end = n + j })
same_end first n k j is = ap (λ (i : ℕ). record { first = first; end = n + i }) is

span_renamed : {E F V : Type 0} (f : E → F) (w : Window) (x : Item E V) → next_span w (renamed f x) ≡ next_span w x
span_renamed f w (Run n []) = refl
span_renamed f w (Run n (e ∷ es)) = same_end (if nat_lt w.first n && nat_lt w.first w.end then w.first else n) n (length (map f (e ∷ es))) (length (e ∷ es)) (length-map (e ∷ es) f)
span_renamed f w Clean = refl
span_renamed f w (Compact c) = refl
span_renamed f w (Put k v) = refl
span_renamed f w (Del k) = refl

all_renamed : {E F V : Type 0} (f : E → F) (w : Window) (xs : List (Item E V)) → MayAllFollow w xs → MayAllFollow w (map (renamed f) xs)
all_renamed f w [] may = tt
all_renamed {F = F} {V = V} f w (x ∷ xs) (one, may) =
    (follow_renamed f w x one, subst (λ (u : Window). MayAllFollow u (map (renamed f) xs)) (sym (span_renamed f w x)) (all_renamed f (next_span w x) xs may))

follows_renamed : {E F V : Type 0} (f : E → F) (v : ℕ → Shown) (xs : List (Tagged E V)) → MayFollowAll v xs → MayFollowAll v (map (renamed_tagged f) xs)
follows_renamed {F = F} {V = V} f v xs may g = subst (λ (l : List (Item F V)). MayAllFollow (span (v g)) l) (sym (of_group_renamed f g xs)) (all_renamed f (span (v g)) (of_group g xs) (may g))

module _ {R : Type 0} (s : LogOnDisk R) (v : ℕ → Shown) (m : Map (List ℕ) (List ℕ)) (items : List LogItem) (entries : List ℕ) (y : Record (List ℕ) (List ℕ)) (n : ℕ) where
  -- a place behind all that was written to the file
  abbrev behind : ℕ
  behind = suc (length (file_bytes s.append.files n))

  abbrev handle : FileBlockHandle
  handle = record { id = record { queue = Append; seq = n }; offset = behind; len = length entries }

  abbrev is_behind : Bool → Place → Bool
  is_behind true p = cond (nat_eq p.file n) (nat_eq p.offset behind) false
  is_behind false p = false

  -- the bytes of each entry, once the batch's entries stood there
  abbrev with_batch : Located → List ℕ
  with_batch l = cond (is_behind l.appended l.place) (part l.place.entry_offset l.place.entry_len entries) (entries_at s l)

  misses : (a b : ℕ) → a < b → nat_eq a b ≡ false
  misses a b less = elim (cases_Bool (nat_eq a b)) [
    | inl hit ↦ absurd (let same : a ≡ b = (Decides-eqb a b).0 hit in omega (arith, less, same))
    | inr miss ↦ miss
  ]

  stored_before : (p : Place) → EntryLiesIn s.append p → is_behind true p ≡ false
  stored_before p lies = elim (cases_Bool (nat_eq p.file n)) [
    | inl hit ↦
        (let here : p.file ≡ n = (Decides-eqb p.file n).0 hit in
        let inside = lies.block.inside in
        let same : length (file_bytes s.append.files p.file) ≡ length (file_bytes s.append.files n) = ap (λ (k : ℕ). length (file_bytes s.append.files k)) here in
        ap (λ (b : Bool). cond b (nat_eq p.offset behind) false) hit ∙ misses p.offset behind (omega (arith, inside, same)))
    | inr miss ↦ ap (λ (b : Bool). cond b (nat_eq p.offset behind) false) miss
  ]

  none_behind : (b : Bool) (p : Place) → EntryLiesIn (queue_in s b) p → is_behind b p ≡ false
  none_behind true p lies = stored_before p lies
  none_behind false p lies = refl

  all_same : (ls : List Located) → Each (IsStored s) ls → Each (λ l. with_batch l ≡ entries_at s l) ls
  all_same [] all = tt
  all_same (l ∷ ls) (one, all) =
      (ap (λ (b : Bool). cond b (part l.place.entry_offset l.place.entry_len entries) (entries_at s l)) (none_behind l.appended l.place one), all_same ls all)

  hits : (a : ℕ) → nat_eq a a ≡ true
  hits a = (Decides-eqb a a).1 refl

  agree : (e : EntryIndex) → e.entry_offset + e.entry_len ≤ length entries → with_batch (in_queue true (place_of (written_entry handle e))) ≡ entry_bytes entries e
  agree e inside =
      ap (λ (b : Bool). cond (cond b (nat_eq behind behind) false) (entry_bytes entries e) (entries_at s (in_queue true (place_of (written_entry handle e))))) (hits n)
      ∙ ap (λ (b : Bool). cond b (entry_bytes entries e) (entries_at s (in_queue true (place_of (written_entry handle e))))) (hits behind)

  abbrev placed : List (Tagged Place (List ℕ))
  placed = tagged_items place_of (written handle items)

  placed_is : placed ≡ map (renamed_tagged place_of) (map (renamed_tagged (written_entry handle)) (tagged_items (λ e. e) items))
  placed_is =
      sym (items_renamed place_of (written handle items))
      ∙ ap (map (renamed_tagged place_of)) (written_items handle items ∙ sym (items_renamed (written_entry handle) items))

  pub grows_in : AreMeant (entries_at s) v m → AreStored s v → IsLaidOver items entries → MayFollowAll v (tagged_items (λ e. e) items)
      → items_of y ≡ tagged_items (entry_bytes entries) items → (u : View (List ℕ) (List ℕ)) × GrowsTo y n (view_of v m) u
  grows_in meant stored laid may is =
      let adds = laid.adds in
      let same : (g : ℕ) → Each (λ l. with_batch l ≡ entries_at s l) (located (v g).rewritten (v g).places) = λ g. all_same (located (v g).rewritten (v g).places) (stored g) in
      let follows : MayFollowAll v placed = subst (MayFollowAll v) (sym placed_is)
      (follows_renamed place_of v (map (renamed_tagged (written_entry handle)) (tagged_items (λ e. e) items)) (follows_renamed (written_entry handle) v (tagged_items (λ e. e) items) may)) in
      let says : items_of y ≡ all_written with_batch placed =
      is ∙ ap (λ (l : List LogItem). tagged_items (entry_bytes entries) l) (sym laid.laid)
      ∙ sym (items_say handle entries (λ p. with_batch (in_queue true p)) agree 0 items (omega (arith, adds)))
      ∙ ap (λ (l : List LogItem). all_written with_batch (tagged_items place_of (written handle l))) laid.laid in
      let grown = view_grows with_batch n v m placed y (means_alike (entries_at s) with_batch v m same meant) follows (written_in handle items) says in
      (view_of (all_shown n v placed) (taken m (y ∷ [])), grown.grows)

pub any_file_may_take_it : {R : Type 0} → AnyFileMayTakeIt R
any_file_may_take_it s v m items entries y meant stored laid may is n = grows_in s v m items entries y n meant stored laid may is
