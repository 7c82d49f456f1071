-- What a batch says that has entries of a group, keys, and maybe a mark.
use Rattle.std.proofs.Common.{◌≡◌, ℕ, ◌+◌, ◌==◌, Bool, true, false, List, [], ◌∷◌, ◌++◌, length, map, Some, refl, sym, ap, ap₂, ◌∙◌, arith, append-nil}
use Rattle.std.proofs.lemmas.List.{length-map, map-append}
use Rattle.raft_log_model_laws.specs.Item.{Item, Tagged}
use Rattle.raft_log_model_laws.specs.Item.Item.{Put, Run}
use Rattle.raft_log_model_laws.specs.Item.Record.{Part}
use Rattle.raft_log_model_laws.specs.Groups.{of_group}
use Rattle.raft_log_model_laws.proofs.Public.{eq_true, if_false, if_true}
use Rattle.raft_log_record_base.specs.declared.pipe_log.FileBlockHandle.{FileBlockHandle}
use Rattle.raft_log_record_items.specs.declared.entry.EntryIndex.{EntryIndex}
use Rattle.raft_log_record_items.specs.declared.item.LogItem.{LogItem}
use Rattle.raft_log_record_items.specs.declared.item.LogItemContent.TheVariants as contents
use Rattle.raft_log_record_items.specs.Items.{item_of, put_item}
use Rattle.raft_log_record_items.specs.Placed.{laid_run, written, written_entry, written_item}
use Rattle.raft_log_record_items.specs.Run.{unplaced_entry}
use Rattle.raft_log_record_frames.specs.declared.marking.Marking.{Marking}
use Rattle.raft_log_record_frames.specs.declared.marking.Marking.TheVariants as markings
use Rattle.raft_log_record_frames.specs.declared.status.AtomicGroupStatus.{AtomicGroupStatus}
use Rattle.raft_log_record_frames.specs.declared.status.AtomicGroupStatus.TheVariants as statuses
use Rattle.raft_log_record_frames.specs.Marking.{has_mark_key, mark_item, marking_of_items}
use Rattle.raft_log_record_frames.specs.Meaning.{BecomesPart, marked, part_of, tagged, tagged_items, unless_mark}
use Rattle.raft_log_record_batches.specs.Batch.{Batch, block_place}
use Rattle.raft_log_record_batches.specs.Entries.{entries_of}
use Rattle.raft_log_record_frames.specs.ItemBatch.{all_entries}
use Rattle.raft_log_record_batches.specs.Places.{entry_bytes}
use Rattle.raft_log_extents.specs.Entries.{place_of}
use Rattle.raft_log_memtable_index.specs.Noted.{AllIn}
use Rattle.raft_log_engine_laws.specs.Writing.{items_at}
use Rattle.raft_log_engine_laws.specs.Parts.{said_items}
use Rattle.raft_log_purge_copy.specs.Entries.{IsRunBatch}
use Rattle.raft_log_purge_copy.specs.Owed.{AreNoMarks}
use Rattle.raft_log_purge_copy.proofs.OneRun.{entries_count}
use Rattle.raft_log_purge_copy.specs.Pieces.{AddsKeys, BeginsAt, IsPiece, put_items, run_items, tagged_all}

-- Items one behind another.

unless_append : {X : Type 0} (b : Bool) (t : X) (xs ys : List X) → unless_mark b t (xs ++ ys) ≡ unless_mark b t xs ++ ys
unless_append true t xs ys = refl
unless_append false t xs ys = refl

pub tagged_append : {E : Type 0} (f : EntryIndex → E) (xs ys : List LogItem) → tagged_items f (xs ++ ys) ≡ tagged_items f xs ++ tagged_items f ys
tagged_append f [] ys = refl
tagged_append f (x ∷ xs) ys =
    ap (unless_mark (has_mark_key x) (tagged f x)) (tagged_append f xs ys) ∙ unless_append (has_mark_key x) (tagged f x) (tagged_items f xs) (tagged_items f ys)

pub written_append : (block : FileBlockHandle) (xs ys : List LogItem) → written block (xs ++ ys) ≡ written block xs ++ written block ys
written_append block xs ys = map-append (written_item block) xs ys

pub tagged_map : {E : Type 0} (g : ℕ) (xs ys : List (Item E (List ℕ))) → tagged_all g (xs ++ ys) ≡ tagged_all g xs ++ tagged_all g ys
tagged_map g xs ys = map-append (λ x. record { group = g; item = x }) xs ys

-- Keys.

puts_said : {E : Type 0} (f : EntryIndex → E) (g : ℕ) (es : List (List ℕ × List ℕ)) → AreNoMarks (map (λ e. put_item g e.0 e.1) es)
    → tagged_items f (map (λ e. put_item g e.0 e.1) es) ≡ tagged_all g (put_items es)
puts_said f g [] all = refl
puts_said f g (e ∷ es) all =
    ap (λ (b : Bool). unless_mark b (tagged f (put_item g e.0 e.1)) (tagged_items f (map (λ x. put_item g x.0 x.1) es))) all.0
    ∙ ap (λ l. record { group = g; item = Put e.0 e.1 } ∷ l) (puts_said f g es all.1)

still_counts : (x : List ℕ × List ℕ) (g : ℕ) (block : FileBlockHandle) → has_mark_key (put_item g x.0 x.1) ≡ false → has_mark_key (written_item block (put_item g x.0 x.1)) ≡ false
unfolding has_mark_key
still_counts x g block h = h

puts_there : (g : ℕ) (block : FileBlockHandle) (es : List (List ℕ × List ℕ)) → AreNoMarks (map (λ e. put_item g e.0 e.1) es)
    → tagged_items place_of (written block (map (λ e. put_item g e.0 e.1) es)) ≡ tagged_all g (put_items es)
puts_there g block [] all = refl
puts_there g block (e ∷ es) all =
    ap (λ (b : Bool). unless_mark b (tagged place_of (written_item block (put_item g e.0 e.1))) (tagged_items place_of (written block (map (λ x. put_item g x.0 x.1) es))))
    (still_counts e g block all.0)
    ∙ ap (λ l. record { group = g; item = Put e.0 e.1 } ∷ l) (puts_there g block es all.1)

-- A run.

run_said : {E : Type 0} (f : EntryIndex → E) (g : ℕ) (e : EntryIndex) (es : List EntryIndex)
    → ◌≡◌ {A = List (Tagged E (List ℕ))} (tagged_items f (item_of g (contents.EntryIndexes (e ∷ es)) ∷ [])) (record { group = g; item = Run e.index (map f (e ∷ es)) } ∷ [])
run_said f g e es = ap (λ (b : Bool). unless_mark b (tagged f (item_of g (contents.EntryIndexes (e ∷ es)))) []) (entries_count g (e ∷ es))

all_in_file : (block : FileBlockHandle) (es : List EntryIndex) → AllIn block.id.seq (map place_of (map (written_entry block) es))
all_in_file block [] = tt
all_in_file block (e ∷ es) = (refl, all_in_file block es)

pub run_is_piece : (g f : ℕ) (b : Batch) (indexes : List ℕ) (bytes : List (List ℕ)) → IsRunBatch g indexes bytes b → BeginsAt f indexes → IsPiece g f bytes [] b
run_is_piece g f b indexes [] is begins = record {
  said = ap (tagged_items (entry_bytes b.entries)) is.items;
  there = λ block. ([], refl, tt, ap (λ (l : List LogItem). tagged_items place_of (written (block_place block b.entries) l)) is.items);
}
run_is_piece g f b [] (x ∷ bytes) is begins = absurd (let same = is.same in omega (arith, same))
run_is_piece g f b (i ∷ indexes) (x ∷ bytes) is begins =
    let rest : List EntryIndex = laid_run (0 + length x) (entries_of indexes bytes) in
    let e : EntryIndex = record (unplaced_entry i (length x)) { entry_offset = 0 } in
    let has : map (entry_bytes b.entries) (e ∷ rest) ≡ x ∷ bytes =
    ap (map (entry_bytes b.entries)) (sym (append-nil (e ∷ rest))) ∙ ap (λ (l : List LogItem). map (entry_bytes b.entries) (all_entries l)) (sym is.items) ∙ is.says in
    let long = sym (length-map (e ∷ rest) (entry_bytes b.entries)) ∙ ap length has in record {
      said =
          ap (tagged_items (entry_bytes b.entries)) is.items
          ∙ run_said (entry_bytes b.entries) g e rest
          ∙ ap₂ (λ (k : ℕ) (l : List (List ℕ)). record { group = g; item = Run k l } ∷ []) begins has;
      there = λ block.
          (let at : FileBlockHandle = block_place block b.entries in (
            map place_of (map (written_entry at) (e ∷ rest)),
            length-map (map (written_entry at) (e ∷ rest)) place_of ∙ length-map (e ∷ rest) (written_entry at) ∙ long,
            all_in_file at (e ∷ rest),
            ap (λ (l : List LogItem). tagged_items place_of (written at l)) is.items
                ∙ run_said place_of g (written_entry at e) (map (written_entry at) rest)
                ∙ ap (λ (k : ℕ). record { group = g; item = Run k (map place_of (map (written_entry at) (e ∷ rest))) } ∷ []) begins,
          ));
    }

-- More items behind it.

module _ (g f : ℕ) (bytes : List (List ℕ)) (pairs : List (List ℕ × List ℕ)) (b : Batch) (is : IsPiece g f bytes [] b) where
  pub with_keys : (new : Batch) → AddsKeys g pairs b new → IsPiece g f bytes pairs new
  with_keys new adds = record {
    said =
        ap₂ (λ (l : List LogItem) (k : List ℕ). tagged_items (entry_bytes k) l) adds.items adds.entries
        ∙ tagged_append (entry_bytes b.entries) b.items (map (λ e. put_item g e.0 e.1) pairs)
        ∙ ap₂ (λ x y. x ++ y) (is.said ∙ ap (tagged_all g) (append-nil (run_items f bytes))) (puts_said (entry_bytes b.entries) g pairs adds.plain)
        ∙ sym (tagged_map g (run_items f bytes) (put_items pairs));
    there = λ block.
        (let old = is.there block in
        let at : FileBlockHandle = block_place block b.entries in (
          old.0,
          old.1,
          old.2,
          ap₂ (λ (l : List LogItem) (k : List ℕ). tagged_items place_of (written (block_place block k) l)) adds.items adds.entries
              ∙ ap (tagged_items place_of) (written_append at b.items (map (λ e. put_item g e.0 e.1) pairs))
              ∙ tagged_append place_of (written at b.items) (written at (map (λ e. put_item g e.0 e.1) pairs))
              ∙ ap₂ (λ x y. x ++ y) (old.3 ∙ ap (tagged_all g) (append-nil (run_items f old.0))) (puts_there g at pairs adds.plain)
              ∙ sym (tagged_map g (run_items f old.0) (put_items pairs)),
        ));
  }

-- a mark says nothing
says_nothing : {E : Type 0} (f : EntryIndex → E) (id : ℕ) (status : AtomicGroupStatus) → tagged_items f (mark_item id status ∷ []) ≡ []
unfolding has_mark_key
says_nothing f id status = refl

nothing_there : (id : ℕ) (status : AtomicGroupStatus) (block : FileBlockHandle) → tagged_items place_of (written block (mark_item id status ∷ [])) ≡ []
unfolding has_mark_key
nothing_there id status block = refl

pub with_mark : (g f : ℕ) (bytes : List (List ℕ)) (pairs : List (List ℕ × List ℕ)) (old new : Batch) (id : ℕ) (status : AtomicGroupStatus) → IsPiece g f bytes pairs old → new.items ≡ old.items ++ mark_item id status ∷ []
    → new.entries ≡ old.entries → IsPiece g f bytes pairs new
with_mark g f bytes pairs old new id status is items entries = record {
  said =
      ap₂ (λ (l : List LogItem) (k : List ℕ). tagged_items (entry_bytes k) l) items entries
      ∙ tagged_append (entry_bytes old.entries) old.items (mark_item id status ∷ [])
      ∙ ap (λ l. said_items old ++ l) (says_nothing (entry_bytes old.entries) id status)
      ∙ append-nil (said_items old) ∙ is.said;
  there = λ block.
      (let here = is.there block in
      let at : FileBlockHandle = block_place block old.entries in (
        here.0,
        here.1,
        here.2,
        ap₂ (λ (l : List LogItem) (k : List ℕ). tagged_items place_of (written (block_place block k) l)) items entries
            ∙ ap (tagged_items place_of) (written_append at old.items (mark_item id status ∷ []))
            ∙ tagged_append place_of (written at old.items) (written at (mark_item id status ∷ []))
            ∙ ap (λ l. items_at block old ++ l) (nothing_there id status at)
            ∙ append-nil (items_at block old) ∙ here.3,
      ));
}

-- Of groups.

pub all_of_group : {E : Type 0} (g : ℕ) (xs : List (Item E (List ℕ))) → of_group g (tagged_all g xs) ≡ xs
all_of_group g [] = refl
all_of_group g (x ∷ xs) = if_true (g == g) (x ∷ of_group g (tagged_all g xs)) (of_group g (tagged_all g xs)) (eq_true g g refl) ∙ ap (λ l. x ∷ l) (all_of_group g xs)

pub none_of_group : {E : Type 0} (g h : ℕ) (xs : List (Item E (List ℕ))) → (g == h) ≡ false → of_group h (tagged_all g xs) ≡ []
none_of_group g h [] apart = refl
none_of_group g h (x ∷ xs) apart = if_false (g == h) (x ∷ of_group h (tagged_all g xs)) (of_group h (tagged_all g xs)) apart ∙ none_of_group g h xs apart

-- That a batch is a part.

same_part : (i k : ℕ) (s t : AtomicGroupStatus) → part_of i s ≡ part_of k t → markings.Part i s ≡ markings.Part k t
same_part i k statuses.Begin statuses.Begin is = cc
same_part i k statuses.Middle statuses.Middle is = cc
same_part i k statuses.End statuses.End is = cc
same_part i k statuses.Begin statuses.Middle is = absurd (let never : ⊥ = cc in never)
same_part i k statuses.Begin statuses.End is = absurd (let never : ⊥ = cc in never)
same_part i k statuses.Middle statuses.Begin is = absurd (let never : ⊥ = cc in never)
same_part i k statuses.Middle statuses.End is = absurd (let never : ⊥ = cc in never)
same_part i k statuses.End statuses.Begin is = absurd (let never : ⊥ = cc in never)
same_part i k statuses.End statuses.Middle is = absurd (let never : ⊥ = cc in never)

part_marking : {E : Type 0} (m : Marking) (xs ys : List (Tagged E (List ℕ))) (id : ℕ) (status : AtomicGroupStatus) → marked m xs ≡ Some (Part (part_of id status) ys) → m ≡ markings.Part id status
part_marking markings.Unmarked xs ys id status is = absurd (let never : ⊥ = cc in never)
part_marking (markings.Part k s) xs ys id status is = same_part k id s status (let same : part_of k s ≡ part_of id status = cc in same)
part_marking markings.Broken xs ys id status is = absurd (let never : ⊥ = cc in never)

pub becomes_part : (old new : List LogItem) (id : ℕ) (status : AtomicGroupStatus) → BecomesPart old new id status → marking_of_items new ≡ markings.Part id status
becomes_part old new id status is = part_marking (marking_of_items new) (tagged_items (λ e. e) new) (tagged_items (λ e. e) old) id status is
