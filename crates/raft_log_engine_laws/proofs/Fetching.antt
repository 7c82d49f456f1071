-- What is read of entries through their blocks is the map's.
use Rattle.std.proofs.Common.{◌≡◌, ◌⊎◌, ℕ, zero, suc, ◌+◌, ◌-◌, ◌<◌, ◌≤◌, Bool, true, false, List, [], ◌∷◌, ◌++◌, length, take, drop, map, Option, Some, None, inl, inr, refl, sym, ap, subst, ◌∙◌, arith, if◌then◌else◌, nat_le, nat_lt, option_map, slice_get}
use Rattle.std.specs.Prelude.{Err, IsOk, not}
use Rattle.std.proofs.lemmas.Bool.{cases_Bool, false≢true}
use Rattle.std.proofs.lemmas.List.{length-drop, length-take-le}
use Rattle.std.proofs.lemmas.Option.{slice_get-map}
use Rattle.std.specs.declared.io.ErrorKind.TheVariants.{Other}
use Rattle.raft_log_model_laws.specs.Groups.{taken}
use Rattle.raft_log_model_laws.specs.Meaning.{Content, Slot}
use Rattle.raft_log_model_laws.specs.Meaning.Slot.{Index}
use Rattle.raft_log_model_laws.specs.Meaning.Content.{Entry}
use Rattle.raft_log_model_laws.specs.Renamed.{renamed_content}
use Rattle.raft_log_model_laws.specs.Table.{content}
use Rattle.raft_log_record_base.specs.declared.errors.Error.{Error}
use Rattle.raft_log_record_base.specs.declared.errors.Error.TheVariants as errors
use Rattle.raft_log_record_base.specs.declared.pipe_log.FileBlockHandle.{FileBlockHandle}
use Rattle.raft_log_record_frames.specs.Record.{block_of}
use Rattle.raft_log_record_items.specs.declared.entry.EntryIndex.{EntryIndex}
use Rattle.raft_log_record_items.specs.Message.{Parses}
use Rattle.raft_log_extents.specs.declared.place.Place.{Place}
use Rattle.raft_log_extents.specs.Counts.{sized}
use Rattle.raft_log_extents.specs.Entries.{entry_of, queue_of}
use Rattle.raft_log_memtable_index.specs.Shown.{Shown}
use Rattle.raft_log_memtable_index.specs.Bridge.{Located, in_queue, located, table_of}
use Rattle.raft_log_memtable.specs.Reads.{AreIn, entries_from, entry_at, fetched, places_between}
use Rattle.raft_log_block_cache.specs.Stored.{Each, EntryLiesIn, IsStored, block_at, entries_at, file_bytes, part, queue_in}
use Rattle.raft_log_active_file.specs.declared.record.LogRecord.{LogRecord}
use Rattle.raft_log_block_cache.specs.raft_log_dual_pipes.specs.State.{Spanned}
use Rattle.raft_log_block_cache.specs.raft_log_dual_pipes.specs.Pipes.{LogRecordValue, State}
use Rattle.raft_log_block_cache.specs.declared.block_cache.BlockCache.{BlockCache}
use Rattle.raft_log_block_cache.specs.Blocks.{AreUnread, BlockIsStored, IsEntryUnread, IsFileUnread, IsNoEntry, IsOfLog, IsUnplaced, KeepsBlock, ReadsEntries, ReadsEntry, written_block}
use Rattle.raft_log_block_cache.proofs.Public.{file_unread, kept_is_written, none_kept, stopped_block}
use Rattle.raft_log_engine_laws.specs.EngineState.{LogDirectories, LogMap, EngineState, sense}
use Rattle.raft_log_engine_laws.specs.Holding.{Represents}
use Rattle.raft_log_engine_laws.specs.Fetching.{AreEntriesOf, AreToRead, IsEntryOf, IsOneUntold, IsUntold, StaysButBlock}

-- lists and their elements
each_at : {A : Type 0} (P : A → Type 0) (xs : List A) (k : ℕ) (x : A) → Each P xs → slice_get xs k ≡ Some x → P x
each_at P [] k x all is = absurd (let never : ⊥ = cc in never)
each_at P (y ∷ ys) zero x (one, all) is = let same : y ≡ x = cc in subst P same one
each_at P (y ∷ ys) (suc k) x (one, all) is = each_at P ys k x all is

taken_at : {A : Type 0} (n : ℕ) (xs : List A) (k : ℕ) (x : A) → slice_get (take n xs) k ≡ Some x → slice_get xs k ≡ Some x
taken_at zero xs k x is = absurd (let never : ⊥ = cc in never)
taken_at (suc n) [] k x is = is
taken_at (suc n) (y ∷ ys) zero x is = is
taken_at (suc n) (y ∷ ys) (suc k) x is = taken_at n ys k x is

dropped_at : {A : Type 0} (n : ℕ) (xs : List A) (k : ℕ) (x : A) → slice_get (drop n xs) k ≡ Some x → slice_get xs (n + k) ≡ Some x
dropped_at zero xs k x is = subst (λ (j : ℕ). slice_get xs j ≡ Some x) (let same : k ≡ 0 + k = omega arith in same) is
dropped_at (suc n) [] k x is = absurd (let never : ⊥ = cc in never)
dropped_at (suc n) (y ∷ ys) k x is = subst (λ (j : ℕ). slice_get (y ∷ ys) j ≡ Some x) (let same : suc (n + k) ≡ suc n + k = omega arith in same) (dropped_at n ys k x is)

located_at : (n : ℕ) (ps : List Place) (k : ℕ) (p : Place) (b : Bool) → nat_lt k n ≡ b → slice_get ps k ≡ Some p → slice_get (located n ps) k ≡ Some (in_queue (not b) p)
located_at zero ps k p true less is = absurd (let never : k < 0 = grind (arith, less) in omega (arith, never))
located_at zero ps k p false less is = slice_get-map (in_queue true) ps k ∙ ap (option_map (in_queue true)) is
located_at (suc n) [] k p b less is = absurd (let never : ⊥ = cc in never)
located_at (suc n) (q ∷ ps) zero p true less is = ap (option_map (in_queue false)) is
located_at (suc n) (q ∷ ps) zero p false less is = absurd (let never : suc n ≤ 0 = grind (arith, less) in omega (arith, never))
located_at (suc n) (q ∷ ps) (suc k) p b less is = located_at n ps k p b (below b less) is
  where
    below : (c : Bool) → nat_lt (suc k) (suc n) ≡ c → nat_lt k n ≡ c
    below true c = let less : suc k < suc n = grind (arith, c) in grind (arith, less)
    below false c = let more : suc n ≤ suc k = grind (arith, c) in grind (arith, more)

le_true : (a b : ℕ) → a ≤ b → nat_le a b ≡ true
le_true a b low = grind (arith, low)

-- an entry of a table: its place
record Found (v : Shown) (i : ℕ) (e : EntryIndex) : Type 0 where
  low : v.first ≤ i
  place : Place
  got : slice_get v.places (i - v.first) ≡ Some place
  is : entry_of (queue_of (nat_lt (i - v.first) v.rewritten)) i place ≡ e

mapped : {A B : Type 0} (f : A → B) (o : Option A) (y : B) → option_map f o ≡ Some y → (x : A) × (o ≡ Some x) × (f x ≡ y)
mapped f None y is = absurd (let never : ⊥ = cc in never)
mapped f (Some x) y is = (x, refl, (let same : f x ≡ y = cc in same))

found : (v : Shown) (i : ℕ) (e : EntryIndex) → entry_at v i ≡ Some e → Found v i e
found v i e is = by (nat_le v.first i) refl is
  where
    by : (b : Bool) → nat_le v.first i ≡ b → (if b then option_map (entry_of (queue_of (nat_lt (i - v.first) v.rewritten)) i) (slice_get v.places (i - v.first)) else None) ≡ Some e → Found v i e
    by true le there =
        let (p, got, same) = mapped (entry_of (queue_of (nat_lt (i - v.first) v.rewritten)) i) (slice_get v.places (i - v.first)) e there in
        record { low = grind (arith, le); place = p; got = got; is = same }
    by false le there = absurd (let never : ⊥ = cc in never)

-- what an entry's place says of a log: its block lies there, and is whole, the entry ends before its checksum, and its
-- bytes in the map stand in that
record Stands (log : State) (m : LogMap) (g i : ℕ) (e : EntryIndex) : Type 0 where
  block : FileBlockHandle
  placed : e.entries ≡ Some block
  lies : BlockIsStored log block
  whole : IsOk (block_of (written_block log block))
  inside : e.entry_offset + e.entry_len ≤ length (written_block log block) - 4
  maps : m g (Index i) ≡ Some (Entry (part e.entry_offset e.entry_len (written_block log block)))

ends_before : (q : Spanned LogRecord) (p : Place) → EntryLiesIn q p → p.entry_offset + p.entry_len ≤ length (block_at q.files p.file p.offset p.len) - 4
ends_before q p lies =
    let inside = lies.block.inside in
    let rest = length-drop p.offset (file_bytes q.files p.file) in
    let long : length (block_at q.files p.file p.offset p.len) ≡ p.len = length-take-le p.len (drop p.offset (file_bytes q.files p.file)) (omega (arith, inside, rest)) in
    subst (λ (n : ℕ). p.entry_offset + p.entry_len ≤ n - 4) (sym long) lies.entry

stands_at : (log : State) (m : LogMap) (g i : ℕ) (b : Bool) (p : Place) → EntryLiesIn (queue_in log (not b)) p → m g (Index i) ≡ Some (Entry (entries_at log (in_queue (not b) p)))
    → Stands log m g i (entry_of (queue_of b) i p)
stands_at log m g i true p lies is = record { block = _; placed = refl; lies = lies.block; whole = lies.whole; inside = ends_before log.rewrite p lies; maps = is }
stands_at log m g i false p lies is = record { block = _; placed = refl; lies = lies.block; whole = lies.whole; inside = ends_before log.append p lies; maps = is }

place_in : (ps : List Place) (k : ℕ) → k < length ps → (p : Place) × (slice_get ps k ≡ Some p)
place_in [] k less = absurd (omega (arith, less))
place_in (p ∷ ps) zero less = (p, refl)
place_in (p ∷ ps) (suc k) less = place_in ps k (omega (arith, less))

module _ (s : EngineState) (g : ℕ) (home : LogDirectories) (m : LogMap) (pending : List LogRecordValue) (h : Represents home s m pending) where
  abbrev told : LogMap
  told = taken m pending

  -- the map's content at the index of an entry
  mapped_at : (i : ℕ) (l : Located) → (s.tables g).first ≤ i → slice_get (located (s.tables g).rewritten (s.tables g).places) (i - (s.tables g).first) ≡ Some l
      → told g (Index i) ≡ Some (Entry (entries_at h.state l))
  mapped_at i l low is =
      let v = s.tables g in
      let at = entries_at h.state in
      let here : h.map g (Index i) ≡ Some (Entry (at l)) =
      sym (h.meant.meant g (Index i))
      ∙ ap (λ (b : Bool). option_map (renamed_content {V = List ℕ} at) (if b then option_map Entry (slice_get (located v.rewritten v.places) (i - v.first)) else None))
      (le_true v.first i low)
      ∙ ap (λ (o : Option Located). option_map (renamed_content {V = List ℕ} at) (option_map Entry o)) is in
      subst (λ (k : LogMap). k g (Index i) ≡ Some (Entry (at l))) h.at.stands.map here

  stands : (i : ℕ) (e : EntryIndex) → entry_at (s.tables g) i ≡ Some e → Stands h.state told g i e
  stands i e is =
      let v = s.tables g in
      let f = found v i e is in
      let b = nat_lt (i - v.first) v.rewritten in
      let there = located_at v.rewritten v.places (i - v.first) f.place b refl f.got in
      let lies = each_at (IsStored h.state) (located v.rewritten v.places) (i - v.first) (in_queue (not b) f.place) (h.stored g) there in
      subst (Stands h.state told g i) f.is (stands_at h.state told g i b f.place lies (mapped_at i (in_queue (not b) f.place) f.low there))

  -- what is known of the block that is kept behind a read
  module _ {M : Type 0} (reading : List ℕ → Option M) where
    same_block : (e : EntryIndex) (a b : FileBlockHandle) → e.entries ≡ Some a → e.entries ≡ Some b → a ≡ b
    same_block e a b one other = cc

    pub told_of : (i : ℕ) (e : EntryIndex) (old new : BlockCache) (message : M) → entry_at (s.tables g) i ≡ Some e → IsOfLog h.state old → ReadsEntry reading s.pipes e old new message
        → IsOfLog h.state new × IsEntryOf reading told g i message
    told_of i e old new message is cached r =
        let there = stands i e is in
        let same = same_block e r.block there.block r.placed there.placed in
        let lies = subst (BlockIsStored h.state) (sym same) there.lies in
        let (of_log, bytes) = kept_is_written (sense home) s.pipes h.state h.runs old new cached r.block lies r.kept in (
          of_log,
          (
            part e.entry_offset e.entry_len (written_block h.state there.block),
            there.maps,
            ap (λ (l : List ℕ). reading (part e.entry_offset e.entry_len l)) (sym (bytes ∙ ap (written_block h.state) same)) ∙ r.is,
          ),
        )

    unplaced : (e : EntryIndex) (error : Error) → IsUnplaced e error → e.entries ≡ None
    unplaced e errors.Memory is = is
    unplaced e (errors.InvalidArgument text) is = is
    unplaced e _ is = absurd is

    no_entry : (e : EntryIndex) (block : FileBlockHandle) (cache : BlockCache) (bytes : List ℕ) (error : Error) → cache.bytes.items ≡ bytes → e.entry_offset + e.entry_len ≤ length bytes - 4
        → IsNoEntry e.entry_offset e.entry_len cache error → IsFileUnread s.pipes block error
    no_entry e block cache bytes errors.Memory same inside is = tt
    no_entry e block cache bytes (errors.Corruption text) same inside is = absurd (is (subst (λ (l : List ℕ). e.entry_offset + e.entry_len ≤ length l - 4) (sym same) inside))
    no_entry e block cache bytes _ same inside is = absurd is

    pub untold_of : (i : ℕ) (e : EntryIndex) (old new : BlockCache) (error : Error) → entry_at (s.tables g) i ≡ Some e → IsOfLog h.state old → IsEntryUnread reading s.pipes e old new error
        → IsOfLog h.state new × IsUntold reading g i s told error
    untold_of i e old new error is cached (inl (none, same)) =
        let there = stands i e is in
        let gone = unplaced e error none in
        let placed = there.placed in
        absurd (let never : ⊥ = cc in never)
    untold_of i e old new error is cached (inr (block, placed, inl (unread, none, apart))) =
        let there = stands i e is in
        let same = same_block e block there.block placed there.placed in
        let lies = subst (BlockIsStored h.state) (sym same) there.lies in
        let whole = subst (λ (k : FileBlockHandle). IsOk (block_of (written_block h.state k))) (sym same) there.whole in (
          none_kept h.state new none,
          record { entry = e; block = block; bytes = _; stands = is; placed = placed; maps = there.maps; why = inl (file_unread (sense home) s.pipes h.state h.runs block lies whole error unread) },
        )
    untold_of i e old new error is cached (inr (block, placed, inr (kept, why))) =
        let there = stands i e is in
        let same = same_block e block there.block placed there.placed in
        let lies = subst (BlockIsStored h.state) (sym same) there.lies in
        let inside = subst (λ (k : FileBlockHandle). e.entry_offset + e.entry_len ≤ length (written_block h.state k) - 4) (sym same) there.inside in
        let (of_log, bytes) = kept_is_written (sense home) s.pipes h.state h.runs old new cached block lies kept in (
          of_log,
          record {
            entry = e;
            block = block;
            bytes = part e.entry_offset e.entry_len (written_block h.state block);
            stands = is;
            placed = placed;
            maps = subst (λ (k : FileBlockHandle). told g (Index i) ≡ Some (Entry (part e.entry_offset e.entry_len (written_block h.state k)))) (sym same) there.maps;
            why = elim why [
              | inl none ↦ inl (no_entry e block new (written_block h.state block) error bytes inside none)
              | inr unparsed ↦ inr (subst (λ (l : List ℕ). Parses {M = M} (Err error) (reading (part e.entry_offset e.entry_len l))) bytes unparsed)
            ];
          },
        )

    -- where the file system has stopped, it isn't told for that
    pub untold_at_stop : (i : ℕ) (e : EntryIndex) → entry_at (s.tables g) i ≡ Some e → s.pipes.disk.stopped ≡ true → IsUntold reading g i s told (errors.Io Other)
    untold_at_stop i e is ends =
        let there = stands i e is in
        record {
          entry = e;
          block = there.block;
          bytes = _;
          stands = is;
          placed = there.placed;
          maps = there.maps;
          why = inl (stopped_block (sense home) s.pipes h.state h.runs there.block there.lies ends);
        }

    -- the same of entries that lie one behind another in the table
    entry_is : (n : ℕ) (p : Place) → slice_get (s.tables g).places n ≡ Some p
        → entry_at (s.tables g) ((s.tables g).first + n) ≡ Some (entry_of (queue_of (nat_lt n (s.tables g).rewritten)) ((s.tables g).first + n) p)
    entry_is n p got =
        let v = s.tables g in
        let back : (v.first + n) - v.first ≡ n = omega arith in
        ap (λ (b : Bool). if b then option_map (entry_of (queue_of (nat_lt ((v.first + n) - v.first) v.rewritten)) (v.first + n)) (slice_get v.places ((v.first + n) - v.first)) else None)
        (le_true v.first (v.first + n) (let more : v.first ≤ v.first + n = omega arith in more))
        ∙ ap (λ (k : ℕ). option_map (entry_of (queue_of (nat_lt k v.rewritten)) (v.first + n)) (slice_get v.places k)) back
        ∙ ap (option_map (entry_of (queue_of (nat_lt n v.rewritten)) (v.first + n))) got

    -- the entry at an index that the table has
    pub first_untold : (i : ℕ) → (s.tables g).first ≤ i → i < (s.tables g).first + length (s.tables g).places → s.pipes.disk.stopped ≡ true → IsUntold reading g i s told (errors.Io Other)
    first_untold i low high ends =
        let v = s.tables g in
        let (p, got) = place_in v.places (i - v.first) (omega (arith, low, high)) in
        let back : v.first + (i - v.first) ≡ i = omega (arith, low) in
        subst (λ (k : ℕ). IsUntold reading g k s told (errors.Io Other)) back (untold_at_stop (v.first + (i - v.first)) _ (entry_is (i - v.first) p got) ends)

    -- places that stand in the table from a position on
    abbrev StandFrom : ℕ → List Place → Type 0
    StandFrom n ps = (j : ℕ) (p : Place) → slice_get ps j ≡ Some p → slice_get (s.tables g).places (n + j) ≡ Some p

    first_from : (n : ℕ) (p : Place) (ps : List Place) → StandFrom n (p ∷ ps) → slice_get (s.tables g).places n ≡ Some p
    first_from n p ps from = subst (λ (k : ℕ). slice_get (s.tables g).places k ≡ Some p) (let same : n + 0 ≡ n = omega arith in same) (from 0 p refl)

    next_from : (n : ℕ) (p : Place) (ps : List Place) → StandFrom n (p ∷ ps) → StandFrom (n + 1) ps
    next_from n p ps from j q is = subst (λ (k : ℕ). slice_get (s.tables g).places k ≡ Some q) (let same : n + suc j ≡ (n + 1) + j = omega arith in same) (from (suc j) q is)

    pub all_told : (n : ℕ) (ps : List Place) (old new : BlockCache) (messages : List M) → StandFrom n ps → IsOfLog h.state old
        → ReadsEntries reading s.pipes (entries_from (s.tables g) n ps) old new messages → IsOfLog h.state new × AreEntriesOf reading told g ((s.tables g).first + n) messages
    all_told n [] old new messages from cached (same, none) =
        (subst (IsOfLog h.state) (sym same) cached, subst (AreEntriesOf reading told g ((s.tables g).first + n)) (sym none) tt)
    all_told n (p ∷ ps) old new [] from cached never = absurd never
    all_told n (p ∷ ps) old new (x ∷ xs) from cached (next, one, rest) =
        let v = s.tables g in
        let (now, first) = told_of (v.first + n) _ old next x (entry_is n p (first_from n p ps from)) cached one in
        let (end, others) = all_told (n + 1) ps next new xs (next_from n p ps from) now rest in
        (end, (first, subst (λ (k : ℕ). AreEntriesOf reading told g k xs) (let same : v.first + (n + 1) ≡ (v.first + n) + 1 = omega arith in same) others))

    pub all_untold : (n : ℕ) (ps : List Place) (begin end : ℕ) (old new : BlockCache) (error : Error) → StandFrom n ps → begin ≤ (s.tables g).first + n → (s.tables g).first + n + length ps ≤ end
        → IsOfLog h.state old → AreUnread reading s.pipes (entries_from (s.tables g) n ps) old new error → IsOfLog h.state new × IsOneUntold reading g begin end s told error
    all_untold n [] begin end old new error from low high cached (memory, same) = (subst (IsOfLog h.state) (sym same) cached, inl memory)
    all_untold n (p ∷ ps) begin end old new error from low high cached (inl (memory, same)) = (subst (IsOfLog h.state) (sym same) cached, inl memory)
    all_untold n (p ∷ ps) begin end old new error from low high cached (inr (inl unread)) =
        let v = s.tables g in
        let (now, why) = untold_of (v.first + n) _ old new error (entry_is n p (first_from n p ps from)) cached unread in
        (now, inr (v.first + n, low, omega (arith, high), why))
    all_untold n (p ∷ ps) begin end old new error from low high cached (inr (inr (next, x, one, rest))) =
        let v = s.tables g in
        let (now, first) = told_of (v.first + n) _ old next x (entry_is n p (first_from n p ps from)) cached one in
        all_untold (n + 1) ps begin end next new error (next_from n p ps from) (omega (arith, low)) (omega (arith, high)) now rest

    -- the places that a fetch reads stand in the table
    pub fetched_from : (begin end : ℕ) (max : Option ℕ) → StandFrom (begin - (s.tables g).first) (take (sized max (places_between (s.tables g) begin end)) (places_between (s.tables g) begin end))
    fetched_from begin end max j p is =
        let v = s.tables g in
        dropped_at (begin - v.first) v.places j p
        (taken_at (end - begin) (drop (begin - v.first) v.places) j p (taken_at (sized max (places_between v begin end)) (places_between v begin end) j p is))
