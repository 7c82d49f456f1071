-- A batch of one run, whose bytes are those of the first entries in Append, has copies of them.
use Rattle.std.proofs.Common.{◌≡◌, ℕ, zero, suc, ◌+◌, ◌-◌, ◌≤◌, ◌==◌, ◌&&◌, Bool, true, false, if◌then◌else◌, List, [], ◌∷◌, length, take, drop, map, Option, Some, None, option_map, slice_get, nat_le, inr, refl, sym, ap, ap₂, subst, ◌∙◌, arith}
use Rattle.std.proofs.lemmas.List.{length-map}
use Rattle.raft_log_model_laws.specs.Item.{Item, Tagged}
use Rattle.raft_log_model_laws.specs.Item.Item.{Run, Clean, Compact, Put, Del}
use Rattle.raft_log_model_laws.specs.Groups.{of_group}
use Rattle.raft_log_model_laws.specs.Meaning.Slot.{Index}
use Rattle.raft_log_model_laws.specs.Meaning.Content.{Entry}
use Rattle.raft_log_model_laws.specs.Renamed.{renamed_content, renamed_tagged}
use Rattle.raft_log_record_base.specs.declared.pipe_log.FileBlockHandle.{FileBlockHandle}
use Rattle.raft_log_record_items.specs.declared.entry.EntryIndex.{EntryIndex}
use Rattle.raft_log_record_items.specs.declared.item.LogItemContent.TheVariants as contents
use Rattle.raft_log_record_items.specs.declared.item.LogItem.{LogItem}
use Rattle.raft_log_record_items.specs.Items.{item_of}
use Rattle.raft_log_record_items.specs.Placed.{written, written_entry}
use Rattle.raft_log_record_frames.specs.Marking.{has_mark_key}
use Rattle.raft_log_record_frames.specs.Meaning.{tagged, tagged_items, unless_mark}
use Rattle.raft_log_record_batches.specs.Batch.{Batch, block_place}
use Rattle.raft_log_record_batches.specs.Places.{entry_bytes}
use Rattle.raft_log_extents.specs.declared.place.Place.{Place}
use Rattle.raft_log_extents.specs.Counts.{passing}
use Rattle.raft_log_extents.specs.Entries.{place_of}
use Rattle.raft_log_memtable_index.specs.Shown.{Shown}
use Rattle.raft_log_memtable_index.specs.Bridge.{IsMeant, Located, in_queue, located, read}
use Rattle.raft_log_memtables.specs.Rewriting.{AreCopies, IsCopy}
use Rattle.raft_log_memtables.proofs.Public.{by_group, same_or_apart}
use Rattle.raft_log_memtables.specs.Views.{AreMeant}
use Rattle.raft_log_engine_laws.specs.EngineState.{LogMap}
use Rattle.raft_log_engine_laws.specs.Writing.{items_at}
use Rattle.raft_log_engine_laws.specs.Rewriting.{HasCopies, SaysAt}
use Rattle.raft_log_purge_copy.specs.Entries.{AreEntryBytes}

-- Lists.

pub dropped_at : {A : Type 0} (n : ℕ) (xs : List A) (k : ℕ) (x : A) → slice_get (drop n xs) k ≡ Some x → slice_get xs (n + k) ≡ Some x
dropped_at zero xs k x is = subst (λ (j : ℕ). slice_get xs j ≡ Some x) (let same : k ≡ 0 + k = omega arith in same) is
dropped_at (suc n) [] k x is = absurd (let never : ⊥ = cc in never)
dropped_at (suc n) (y ∷ ys) k x is = subst (λ (j : ℕ). slice_get (y ∷ ys) j ≡ Some x) (let same : suc (n + k) ≡ suc n + k = omega arith in same) (dropped_at n ys k x is)

pub taken_at : {A : Type 0} (n : ℕ) (xs : List A) (k : ℕ) (x : A) → slice_get (take n xs) k ≡ Some x → slice_get xs k ≡ Some x
taken_at zero xs k x is = absurd (let never : ⊥ = cc in never)
taken_at (suc n) [] k x is = is
taken_at (suc n) (y ∷ ys) zero x is = is
taken_at (suc n) (y ∷ ys) (suc k) x is = taken_at n ys k x is

-- as many are left as there are behind
left_over : {A B : Type 0} (n : ℕ) (xs : List A) (ys : List B) → length xs ≡ length ys → length (drop n xs) ≡ length (drop n ys)
left_over zero xs ys same = same
left_over (suc n) [] [] same = refl
left_over (suc n) [] (y ∷ ys) same = absurd (omega (arith, same))
left_over (suc n) (x ∷ xs) [] same = absurd (omega (arith, same))
left_over (suc n) (x ∷ xs) (y ∷ ys) same = left_over n xs ys (omega (arith, same))

located_len : (n : ℕ) (ps : List Place) → length (located n ps) ≡ length ps
located_len zero ps = length-map ps (in_queue true)
located_len (suc n) [] = refl
located_len (suc n) (p ∷ ps) = let rest = located_len n ps in omega (arith, rest)

passing_bound : (gate : ℕ) (ps : List Place) → passing gate ps ≤ length ps
passing_bound gate [] = omega arith
passing_bound gate (p ∷ ps) = by (nat_le p.file gate) (passing_bound gate ps)
  where
    by : (b : Bool) → passing gate ps ≤ length ps → (if b then suc (passing gate ps) else 0) ≤ suc (length ps)
    by true rest = omega (arith, rest)
    by false rest = omega arith

-- What a run says.

pub entries_count : (g : ℕ) (es : List EntryIndex) → has_mark_key (item_of g (contents.EntryIndexes es)) ≡ false
unfolding has_mark_key
entries_count g es = never (g == 0)
  where
    never : (b : Bool) → (b && false) ≡ false
    never true = refl
    never false = refl

run_said : {E : Type 0} (f : EntryIndex → E) (g : ℕ) (e : EntryIndex) (es : List EntryIndex)
    → ◌≡◌ {A = List (Tagged E (List ℕ))} (tagged_items f (item_of g (contents.EntryIndexes (e ∷ es)) ∷ [])) (record { group = g; item = Run e.index (map f (e ∷ es)) } ∷ [])
run_said f g e es = ap (λ (b : Bool). unless_mark b (tagged f (item_of g (contents.EntryIndexes (e ∷ es)))) []) (entries_count g (e ∷ es))

abbrev entries_in : {E : Type 0} → Item E (List ℕ) → List E
entries_in (Run f es) = es
entries_in Clean = []
entries_in (Compact c) = []
entries_in (Put k w) = []
entries_in (Del k) = []

abbrev first_run : {E : Type 0} → List (Tagged E (List ℕ)) → List E
first_run [] = []
first_run (x ∷ xs) = entries_in x.item

-- What is read.

le_true : (a b : ℕ) → a ≤ b → nat_le a b ≡ true
le_true a b low = grind (arith, low)

module _ (at : Located → List ℕ) (m : LogMap) (g : ℕ) where
  all_read : (ls : List Located) (bs : List (List ℕ)) (i : ℕ) → ((j : ℕ) (l : Located) → slice_get ls j ≡ Some l → m g (Index (i + j)) ≡ Some (Entry (at l))) → AreEntryBytes m g i bs → length bs ≤ length ls
      → map at (take (length bs) ls) ≡ bs
  all_read ls [] i maps bytes fits = refl
  all_read [] (x ∷ xs) i maps bytes fits = absurd (omega (arith, fits))
  all_read (l ∷ ls) (x ∷ xs) i maps (one, rest) fits =
      let here : m g (Index i) ≡ Some (Entry (at l)) = subst (λ (k : ℕ). m g (Index k) ≡ Some (Entry (at l))) (let same : i + 0 ≡ i = omega arith in same) (maps 0 l refl) in
      let same : at l ≡ x = cc in
      ap₂ (λ (y : List ℕ) (ys : List (List ℕ)). y ∷ ys) same
      (all_read ls xs (i + 1) (λ j k is. subst (λ (n : ℕ). m g (Index n) ≡ Some (Entry (at k))) (let next : i + suc j ≡ (i + 1) + j = omega arith in next) (maps (suc j) k is)) rest (omega (arith, fits)))

  mapped : (v : Shown) → IsMeant at v (m g) → (i : ℕ) (l : Located) → v.first ≤ i → slice_get (located v.rewritten v.places) (i - v.first) ≡ Some l → m g (Index i) ≡ Some (Entry (at l))
  mapped v meant i l low is =
      sym (meant (Index i))
      ∙ ap (λ (b : Bool). option_map (renamed_content {V = List ℕ} at) (if b then option_map Entry (slice_get (located v.rewritten v.places) (i - v.first)) else None)) (le_true v.first i low)
      ∙ ap (λ (o : Option Located). option_map (renamed_content {V = List ℕ} at) (option_map Entry o)) is

  run_read : (v : Shown) (gate : ℕ) (bs : List (List ℕ)) → IsMeant at v (m g) → AreEntryBytes m g (v.first + v.rewritten) bs → length bs ≤ passing gate (drop v.rewritten v.places)
      → read at v (v.first + v.rewritten) (length bs) ≡ bs
  run_read v gate bs meant bytes fits =
      let back : (v.first + v.rewritten) - v.first ≡ v.rewritten = omega arith in
      let most = passing_bound gate (drop v.rewritten v.places) in
      let left = left_over v.rewritten (located v.rewritten v.places) v.places (located_len v.rewritten v.places) in
      ap (λ (k : ℕ). map at (take (length bs) (drop k (located v.rewritten v.places)))) back
      ∙ all_read (drop v.rewritten (located v.rewritten v.places)) bs (v.first + v.rewritten)
      (λ j l is. mapped v meant ((v.first + v.rewritten) + j) l (omega arith)
      (subst (λ (k : ℕ). slice_get (located v.rewritten v.places) k ≡ Some l) (let same : v.rewritten + j ≡ ((v.first + v.rewritten) + j) - v.first = omega arith in same)
      (dropped_at v.rewritten (located v.rewritten v.places) j l is)))
      bytes (omega (arith, fits, most, left))

-- The copies.

-- where the batch's entries lie once it is written at this place
abbrev pub run_places : Batch → EntryIndex → List EntryIndex → FileBlockHandle → List Place
run_places b e es block = map place_of (map (written_entry (block_place block b.entries)) (e ∷ es))

pub items_there : (g : ℕ) (b : Batch) (e : EntryIndex) (es : List EntryIndex) → b.items ≡ item_of g (contents.EntryIndexes (e ∷ es)) ∷ [] → (block : FileBlockHandle)
    → ◌≡◌ {A = List (Tagged Place (List ℕ))} (items_at block b) (record { group = g; item = Run e.index (run_places b e es block) } ∷ [])
items_there g b e es is block =
    ap (λ (l : List LogItem). tagged_items place_of (written (block_place block b.entries) l)) is
    ∙ run_said place_of g (written_entry (block_place block b.entries) e) (map (written_entry (block_place block b.entries)) es)

module _ (g gate : ℕ) (b : Batch) (v : ℕ → Shown) (m : LogMap) (e : EntryIndex) (es : List EntryIndex) (is : b.items ≡ item_of g (contents.EntryIndexes (e ∷ es)) ∷ []) (first : e.index ≡ (v g).first + (v g).rewritten)
    (fits : length (e ∷ es) ≤ passing gate (drop (v g).rewritten (v g).places)) (clean : (v g).cleaned ≡ false) (whole : (v g).compacted ≡ false)
    (bytes : AreEntryBytes m g ((v g).first + (v g).rewritten) (map (entry_bytes b.entries) (e ∷ es))) where
  abbrev placed_run : FileBlockHandle → List Place
  placed_run block = run_places b e es block

  module _ (block : FileBlockHandle) (at : Located → List ℕ) (meant : AreMeant at v m) (says : SaysAt at block b) where
    run_bytes : map (λ p. at (in_queue false p)) (placed_run block) ≡ map (entry_bytes b.entries) (e ∷ es)
    run_bytes =
        ap (first_run {E = List ℕ})
        (sym (ap (map (renamed_tagged (λ p. at (in_queue false p)))) (items_there g b e es is block)) ∙ says ∙ ap (λ (l : List LogItem). tagged_items (entry_bytes b.entries) l) is ∙ run_said (entry_bytes b.entries) g e es)

    run_len : length (placed_run block) ≡ length (e ∷ es)
    run_len = length-map (map (written_entry (block_place block b.entries)) (e ∷ es)) place_of ∙ length-map (e ∷ es) (written_entry (block_place block b.entries))

    is_copy : IsCopy at (Some gate) (v g) (Run e.index (placed_run block))
    is_copy =
        let count = run_len in
        let same = length-map (e ∷ es) (entry_bytes b.entries) in (
          omega (arith, first),
          omega (arith, first),
          omega (arith, first),
          omega (arith, first, fits, count),
          inr (clean, whole),
          run_bytes
              ∙ sym (run_read at m g (v g) gate (map (entry_bytes b.entries) (e ∷ es)) (meant.meant g) bytes (omega (arith, fits, same)))
              ∙ ap₂ (λ (f n : ℕ). read at (v g) f n) (sym first) (same ∙ sym count),
        )

    copies_at : (h : ℕ) → AreCopies at (Some gate) block.id.seq (v h) (of_group h (items_at block b))
    copies_at h =
        subst (λ (l : List (Tagged Place (List ℕ))). AreCopies at (Some gate) block.id.seq (v h) (of_group h l)) (sym (items_there g b e es is block))
        (by_group g h (same_or_apart g h)
        (λ t here. subst (λ (b : Bool). AreCopies at (Some gate) block.id.seq (v h) (if b then Run e.index (placed_run block) ∷ [] else [])) (sym t)
        (subst (λ (k : ℕ). AreCopies at (Some gate) block.id.seq (v k) (Run e.index (placed_run block) ∷ [])) here (is_copy, tt)))
        (λ f. subst (λ (b : Bool). AreCopies at (Some gate) block.id.seq (v h) (if b then Run e.index (placed_run block) ∷ [] else [])) (sym f) tt))

  pub run_has_copies : HasCopies (Some gate) b v m
  run_has_copies block at meant says = copies_at block at meant says
