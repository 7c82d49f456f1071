-- What is read of entries, as an engine answers it.
use Rattle.std.proofs.Common.{◌≡◌, ℕ, zero, suc, ◌+◌, ◌-◌, ◌<◌, ◌≤◌, Bool, true, false, List, [], ◌∷◌, ◌++◌, length, take, drop, Option, Some, None, inl, inr, refl, sym, ap, subst, ◌∙◌, arith, if◌then◌else◌, nat_le, nat_lt, option_map, slice_get}
use Rattle.std.specs.BTreeMap.{get}
use Rattle.std.specs.Ordering.{nat_cmp}
use Rattle.std.proofs.lemmas.Option.{slice_get_past}
use Rattle.raft_log_model_laws.specs.Groups.{taken}
use Rattle.raft_log_model_laws.specs.Meaning.Slot.{Index}
use Rattle.raft_log_model_laws.specs.Meaning.Content.{Entry}
use Rattle.raft_log_model_laws.specs.Renamed.{renamed_content}
use Rattle.raft_log_record_base.specs.declared.errors.Error.{Error}
use Rattle.raft_log_record_base.specs.declared.errors.Error.TheVariants as errors
use Rattle.raft_log_record_items.specs.declared.entry.EntryIndex.{EntryIndex}
use Rattle.raft_log_extents.specs.declared.place.Place.{Place}
use Rattle.raft_log_extents.specs.Counts.{sized}
use Rattle.raft_log_extents.specs.Entries.{entry_of, queue_of}
use Rattle.raft_log_memtable_index.specs.Shown.{Shown, nothing_shown}
use Rattle.raft_log_memtable_index.specs.Bridge.{Located, located}
use Rattle.raft_log_memtable_index.proofs.Public.{located_length}
use Rattle.raft_log_memtable.specs.Table.{Raw, shown}
use Rattle.raft_log_memtable.specs.Reads.{FetchRefused, entries_from, entry_at, fetched, places_between}
use Rattle.raft_log_memtables.specs.declared.group_table.GroupTable.{GroupTable}
use Rattle.raft_log_memtables.specs.declared.mem_tables.MemTables.{MemTables}
use Rattle.raft_log_memtables.specs.Tables.{counting, counts, counts_in, shown_in, shown_of, table_of}
use Rattle.raft_log_block_cache.specs.Stored.{entries_at}
use Rattle.raft_log_dual_pipes.specs.Pipes.{LogRecordValue}
use Rattle.raft_log_block_cache.specs.declared.block_cache.BlockCache.{BlockCache}
use Rattle.raft_log_block_cache.specs.Blocks.{AreUnread, IsEntryUnread, IsOfLog, ReadsEntries, ReadsEntry}
use Rattle.raft_log_purge.specs.raft_log_engine_laws.specs.EngineState.{LogDirectories, LogMap, EngineState, has_failed}
use Rattle.raft_log_purge.specs.raft_log_engine_laws.specs.Holding.{Represents}
use Rattle.raft_log_purge.specs.raft_log_engine_laws.specs.Fetching.{AreEntriesOf, AreToRead, FailsToFetch, FailsToTell, FetchesTo, IsOneUntold, StaysButBlock, TellsEntry}
use Rattle.raft_log_purge.specs.raft_log_engine_laws.proofs.Public.{all_told, all_untold, fetched_from, first_untold, told_of, untold_at_stop, untold_of}
use Rattle.raft_log_engine_core.specs.Reads.{HasFirst, IsToldAs}

less_of : (a b : ℕ) → nat_lt a b ≡ true → a < b
less_of a b is = grind (arith, is)

most_of : (a b : ℕ) → nat_lt a b ≡ false → b ≤ a
most_of a b is = grind (arith, is)

-- the table of a group that counts shows what is shown of the group
table_in : (o : Option GroupTable) (t : Raw) → Some t ≡ counting o → (shown_in o ≡ shown t) × (counts_in o ≡ true)
table_in None t is = absurd (let never : ⊥ = cc in never)
table_in (Some x) t is = by x.counts refl is
  where
    by : (b : Bool) → x.counts ≡ b → Some t ≡ (if b then Some x.table else None) → (shown x.table ≡ shown t) × (x.counts ≡ true)
    by true c there = (ap shown (let same : x.table ≡ t = cc in same), c)
    by false c there = absurd (let never : ⊥ = cc in never)

pub table_shown : (m : MemTables) (g : ℕ) (t : Raw) → Some t ≡ table_of m g → (shown_of m g ≡ shown t) × (counts m g ≡ true)
table_shown m g t is = table_in (get nat_cmp m.groups g) t is

none_counting : (o : Option GroupTable) → ◌≡◌ {A = Option Raw} None (counting o) → counts_in o ≡ false
none_counting None is = refl
none_counting (Some x) is = by x.counts refl is
  where
    by : (b : Bool) → x.counts ≡ b → ◌≡◌ {A = Option Raw} None (if b then Some x.table else None) → x.counts ≡ false
    by true c there = absurd (let never : ⊥ = cc in never)
    by false c there = c

pub none_counted : (m : MemTables) (g : ℕ) → None ≡ table_of m g → counts m g ≡ false
none_counted m g is = none_counting (get nat_cmp m.groups g) is

-- nothing stands where nothing shows
pub none_at : (i : ℕ) → entry_at nothing_shown i ≡ None
none_at i = by (nat_le 0 i)
  where
    by : (b : Bool) → (if b then option_map (entry_of (queue_of (nat_lt (i - 0) 0)) i) (slice_get {X = Place} [] (i - 0)) else None) ≡ None
    by true = refl
    by false = refl

-- an engine with another block, which is the log's
with_block : (home : LogDirectories) (s t : EngineState) (m : LogMap) (pending : List LogRecordValue) → t ≡ record s { cache = t.cache } → (h : Represents home s m pending) → IsOfLog h.state t.cache → Represents home t m pending
with_block home s t m pending same h cached =
    subst (λ u. Represents home u m pending) (sym same)
    (record { state = h.state; map = h.map; runs = h.runs; stored = h.stored; rises = h.rises; noted = h.noted; meant = h.meant; cached = cached; at = h.at })

pub stays_same : (s : EngineState) → StaysButBlock s s
stays_same s = record { same = refl; holds = λ home m pending h. h }

-- no entry is told where the map has none
short_of : {A : Type 0} (xs : List A) (k : ℕ) → slice_get xs k ≡ None → length xs ≤ k
short_of [] k none = omega arith
short_of (x ∷ xs) zero none = absurd (let never : ⊥ = cc in never)
short_of (x ∷ xs) (suc k) none = let less = short_of xs k none in omega (arith, less)

unmapped : {A B : Type 0} (f : A → B) (o : Option A) → option_map f o ≡ None → o ≡ None
unmapped f None none = refl
unmapped f (Some x) none = absurd (let never : ⊥ = cc in never)

module _ (s : EngineState) (g i : ℕ) (none : entry_at (s.tables g) i ≡ None) where
  none_told : (home : LogDirectories) (m : LogMap) (pending : List LogRecordValue) → Represents home s m pending → taken m pending g (Index i) ≡ None
  none_told home m pending h = subst (λ (k : LogMap). k g (Index i) ≡ None) h.at.stands.map (sym (h.meant.meant g (Index i)) ∙ by (nat_le (s.tables g).first i) none)
    where
      by : (b : Bool) → (if b then option_map (entry_of (queue_of (nat_lt (i - (s.tables g).first) (s.tables g).rewritten)) i) (slice_get (s.tables g).places (i - (s.tables g).first)) else None) ≡ None
          → option_map (renamed_content {V = List ℕ} (entries_at h.state)) (if b then option_map Entry (slice_get (located (s.tables g).rewritten (s.tables g).places) (i - (s.tables g).first)) else None) ≡ None
      by true there =
          let past = short_of (s.tables g).places (i - (s.tables g).first) (unmapped (entry_of (queue_of (nat_lt (i - (s.tables g).first) (s.tables g).rewritten)) i) (slice_get (s.tables g).places (i - (s.tables g).first)) there) in
          let long = located_length (s.tables g).rewritten (s.tables g).places in
          ap (λ (o : Option Located). option_map (renamed_content {V = List ℕ} (entries_at h.state)) (option_map Entry o))
          (slice_get_past (located (s.tables g).rewritten (s.tables g).places) (i - (s.tables g).first) (omega (arith, past, long)))
      by false there = refl

pub tells_none : {M : Type 0} (reading : List ℕ → Option M) (s : EngineState) (g i : ℕ) → has_failed s ≡ false → entry_at (s.tables g) i ≡ None → TellsEntry reading g i s s None
tells_none reading s g i lived none = record { lived = lived; stays = stays_same s; exact = λ home m pending h. none_told s g i none home m pending h }

module _ {M : Type 0} (reading : List ℕ → Option M) (s t : EngineState) (g : ℕ) (lived : has_failed s ≡ false) (same : t ≡ record s { cache = t.cache }) where
  pub tells_one : (i : ℕ) (e : EntryIndex) (message : M) → entry_at (s.tables g) i ≡ Some e → ReadsEntry reading s.pipes e s.cache t.cache message → TellsEntry reading g i s t (Some message)
  tells_one i e message is read = record {
    lived = lived;
    stays = record {
      same = same;
      holds = λ home m pending h. with_block home s t m pending same h (told_of s g home m pending h reading i e s.cache t.cache message is h.cached read).0;
    };
    exact = λ home m pending h. (told_of s g home m pending h reading i e s.cache t.cache message is h.cached read).1;
  }

  pub fails_to_tell : (i : ℕ) (e : EntryIndex) (error : Error) → entry_at (s.tables g) i ≡ Some e → IsEntryUnread reading s.pipes e s.cache t.cache error → FailsToTell reading g i s t error
  fails_to_tell i e error is unread = record {
    lived = lived;
    stays = record {
      same = same;
      holds = λ home m pending h. with_block home s t m pending same h (untold_of s g home m pending h reading i e s.cache t.cache error is h.cached unread).0;
    };
    why = λ home m pending h. (untold_of s g home m pending h reading i e s.cache t.cache error is h.cached unread).1;
  }

  -- it is told as what it is told as: want of memory, where the file system has stopped, as the stop
  pub told_as : (i : ℕ) (e : EntryIndex) (error told : Error) → entry_at (s.tables g) i ≡ Some e → IsToldAs s.pipes.disk.stopped error told → FailsToTell reading g i s t error
      → FailsToTell reading g i s t told
  told_as i e error told is (inl (as_it_is, runs)) f = subst (FailsToTell reading g i s t) (sym as_it_is) f
  told_as i e error told is (inr (memory, ends, other)) f =
      subst (FailsToTell reading g i s t) (sym other)
      (record { lived = f.lived; stays = f.stays; why = λ home m pending h. untold_at_stop s g home m pending h reading i e is ends })

  -- a fetch
  abbrev v : Shown
  v = s.tables g

  abbrev places : ℕ → ℕ → Option ℕ → List Place
  places begin end max = take (sized max (places_between v begin end)) (places_between v begin end)

  module _ (begin end : ℕ) (max : Option ℕ) where
    none_asked : end ≤ begin → fetched v begin end max ≡ []
    none_asked less =
        let zero_left : end - begin ≡ 0 = omega (arith, less) in
        ap (λ (k : ℕ). entries_from v (begin - v.first) (take (sized max (take k (drop (begin - v.first) v.places))) (take k (drop (begin - v.first) v.places)))) zero_left
        ∙ nothing max
      where
        nothing : (o : Option ℕ) → entries_from v (begin - v.first) (take (sized o []) []) ≡ []
        nothing None = refl
        nothing (Some n) = refl

    taken_length : {A : Type 0} (n : ℕ) (xs : List A) → length (take n xs) ≤ n
    taken_length zero xs = omega arith
    taken_length (suc n) [] = omega arith
    taken_length (suc n) (x ∷ xs) = let less = taken_length n xs in omega (arith, less)

    taken_shorter : {A : Type 0} (n : ℕ) (xs : List A) → length (take n xs) ≤ length xs
    taken_shorter zero xs = omega arith
    taken_shorter (suc n) [] = omega arith
    taken_shorter (suc n) (x ∷ xs) = let less = taken_shorter n xs in omega (arith, less)

    nothing_told : (home : LogDirectories) (m : LogMap) (pending : List LogRecordValue) (h : Represents home s m pending) (es : List EntryIndex) (messages : List M) → es ≡ [] → ReadsEntries reading s.pipes es s.cache t.cache messages
        → IsOfLog h.state t.cache × AreEntriesOf reading (taken m pending) g begin messages
    nothing_told home m pending h es messages none read =
        let (stays, empty) = subst (λ (l : List EntryIndex). ReadsEntries reading s.pipes l s.cache t.cache messages) none read in
        (subst (IsOfLog h.state) (sym stays) h.cached, subst (AreEntriesOf reading (taken m pending) g begin) (sym empty) tt)

    read_told : (home : LogDirectories) (m : LogMap) (pending : List LogRecordValue) (h : Represents home s m pending) (es : List EntryIndex) (messages : List M) → AreToRead s g begin end max es
        → ReadsEntries reading s.pipes es s.cache t.cache messages → IsOfLog h.state t.cache × AreEntriesOf reading (taken m pending) g begin messages
    read_told home m pending h es messages (inl (none, empty)) read = nothing_told home m pending h es messages empty read
    read_told home m pending h es messages (inr (some, within, is)) read = by (nat_lt begin end) refl
      where
        by : (b : Bool) → nat_lt begin end ≡ b → IsOfLog h.state t.cache × AreEntriesOf reading (taken m pending) g begin messages
        by true less =
            let inside = within (less_of begin end less) in
            let (cached, told) = all_told s g home m pending h reading (begin - v.first) (places begin end max) s.cache t.cache messages (fetched_from s g home m pending h reading begin end max) h.cached
            (subst (λ (l : List EntryIndex). ReadsEntries reading s.pipes l s.cache t.cache messages) is read) in
            (cached, subst (λ (k : ℕ). AreEntriesOf reading (taken m pending) g k messages) (let low = inside.0 in let at : v.first + (begin - v.first) ≡ begin = omega (arith, low) in at) told)
        by false less = nothing_told home m pending h es messages (is ∙ none_asked (most_of begin end less)) read

    read_length : (es : List EntryIndex) (old new : BlockCache) (messages : List M) → ReadsEntries reading s.pipes es old new messages → length messages ≡ length es
    read_length [] old new messages (stays, empty) = ap length empty
    read_length (e ∷ es) old new [] never = absurd never
    read_length (e ∷ es) old new (x ∷ xs) (next, one, others) = ap suc (read_length es next new xs others)

    fetch_stays : (es : List EntryIndex) (messages : List M) → AreToRead s g begin end max es → ReadsEntries reading s.pipes es s.cache t.cache messages → StaysButBlock s t
    fetch_stays es messages asked read = record {
      same = same;
      holds = λ home m pending h. with_block home s t m pending same h (read_told home m pending h es messages asked read).0;
    }

    pub fetches_to : (es : List EntryIndex) (messages old new : List M) (count : ℕ) → AreToRead s g begin end max es → ReadsEntries reading s.pipes es s.cache t.cache messages → new ≡ old ++ messages
        → count ≡ length es → FetchesTo reading g begin end max s t old new count
    fetches_to es messages old new count asked read adds many = record {
      lived = lived;
      stays = fetch_stays es messages asked read;
      entries = es;
      read = asked;
      messages = messages;
      adds = adds;
      counts = (many ∙ sym (read_length es s.cache t.cache messages read), many);
      exact = λ home m pending h. (read_told home m pending h es messages asked read).1;
    }

    nothing_untold : (home : LogDirectories) (m : LogMap) (pending : List LogRecordValue) (h : Represents home s m pending) (es : List EntryIndex) (error : Error) → es ≡ [] → AreUnread reading s.pipes es s.cache t.cache error
        → IsOfLog h.state t.cache × IsOneUntold reading g begin end s (taken m pending) error
    nothing_untold home m pending h es error none unread =
        let (memory, stays) = subst (λ (l : List EntryIndex). AreUnread reading s.pipes l s.cache t.cache error) none unread in
        (subst (IsOfLog h.state) (sym stays) h.cached, inl memory)

    read_untold : (home : LogDirectories) (m : LogMap) (pending : List LogRecordValue) (h : Represents home s m pending) (es : List EntryIndex) (error : Error) → AreToRead s g begin end max es
        → AreUnread reading s.pipes es s.cache t.cache error → IsOfLog h.state t.cache × IsOneUntold reading g begin end s (taken m pending) error
    read_untold home m pending h es error (inl (none, empty)) unread = nothing_untold home m pending h es error empty unread
    read_untold home m pending h es error (inr (some, within, is)) unread = by (nat_lt begin end) refl
      where
        by : (b : Bool) → nat_lt begin end ≡ b → IsOfLog h.state t.cache × IsOneUntold reading g begin end s (taken m pending) error
        by true less =
            let ask : begin < end = less_of begin end less in
            let inside = within ask in
            let low = inside.0 in
            let long = taken_shorter (sized max (places_between v begin end)) (places_between v begin end) in
            let most = taken_length (end - begin) (drop (begin - v.first) v.places) in
            all_untold s g home m pending h reading (begin - v.first) (places begin end max) begin end s.cache t.cache error (fetched_from s g home m pending h reading begin end max)
            (omega (arith, low)) (omega (arith, low, long, most, ask)) h.cached (subst (λ (l : List EntryIndex). AreUnread reading s.pipes l s.cache t.cache error) is unread)
        by false less = nothing_untold home m pending h es error (is ∙ none_asked (most_of begin end less)) unread

    pub fails_to_fetch : (es : List EntryIndex) (error : Error) → AreToRead s g begin end max es → AreUnread reading s.pipes es s.cache t.cache error → FailsToFetch reading g begin end s t error
    fails_to_fetch es error asked unread = record {
      lived = lived;
      stays = record {
        same = same;
        holds = λ home m pending h. with_block home s t m pending same h (read_untold home m pending h es error asked unread).0;
      };
      why = inr (λ home m pending h. (read_untold home m pending h es error asked unread).1);
    }

-- it is told as what it is told as
pub fetch_told_as : {M : Type 0} (reading : List ℕ → Option M) (s t : EngineState) (g begin end : ℕ) (error told : Error) → IsToldAs s.pipes.disk.stopped error told → (error ≡ errors.Memory → HasFirst (s.tables g) begin end)
    → FailsToFetch reading g begin end s t error → FailsToFetch reading g begin end s t told
fetch_told_as reading s t g begin end error told (inl (as_it_is, runs)) there f = subst (FailsToFetch reading g begin end s t) (sym as_it_is) f
fetch_told_as reading s t g begin end error told (inr (memory, ends, other)) there f =
    let first = there memory in
    subst (FailsToFetch reading g begin end s t) (sym other)
    (record {
      lived = f.lived;
      stays = f.stays;
      why = inr (λ home m pending h. inr (begin, omega arith, first.some, first_untold s g home m pending h reading begin first.low first.high ends));
    })

-- want of memory is told of a file system that runs
pub runs_as : (stopped : Bool) (error told : Error) → IsToldAs stopped error told → told ≡ errors.Memory → stopped ≡ false
runs_as stopped error told (inl (as_it_is, runs)) memory = runs (sym as_it_is ∙ memory)
runs_as stopped error told (inr (short, ends, other)) memory = absurd (let never : ⊥ = cc in never)

pub fetch_refused : {M : Type 0} (reading : List ℕ → Option M) (s : EngineState) (g begin end : ℕ) (error : Error) → has_failed s ≡ false → s.counts g ≡ true → FetchRefused (s.tables g) begin end error
    → FailsToFetch reading g begin end s s error
fetch_refused reading s g begin end error lived some why = record { lived = lived; stays = stays_same s; why = inl (some, why) }
