-- What the reads of an engine return is what the model log does.
use Rattle.std.proofs.Common.{◌≡◌, ◌⊎◌, ℕ, zero, suc, ◌+◌, ◌-◌, ◌<◌, ◌≤◌, Bool, true, false, List, [], ◌∷◌, length, take, drop, map, Option, Some, None, inl, inr, refl, sym, ap, ap₂, subst, ◌∙◌, arith, if◌then◌else◌, nat_le, nat_lt, option_map, slice_get}
use Rattle.std.specs.Prelude.{IfErr, IfOk, OnOk, Result, Ok, Err}
use Rattle.std.proofs.lemmas.List.{length-drop, length-take-le}
use Rattle.std.specs.Global.{Vec}
use Rattle.raft_log_model_laws.specs.Groups.{taken}
use Rattle.raft_log_model_laws.specs.Meaning.Slot.{Index}
use Rattle.raft_log_model_laws.specs.Meaning.Content.{Entry}
use Rattle.raft_log_model_laws.specs.Renamed.{renamed_content}
use Rattle.raft_log_record_base.specs.declared.errors.Error.{Error}
use Rattle.raft_log_extents.specs.declared.place.Place.{Place}
use Rattle.raft_log_extents.specs.Counts.{fitting, sized}
use Rattle.raft_log_memtable_index.specs.Bridge.{Located, in_queue, located}
use Rattle.raft_log_memtable_index.specs.Shown.{Shown}
use Rattle.raft_log_memtable.specs.Reads.{AreIn, entries_from, fetched, first_of, places_between}
use Rattle.raft_log_memtables.specs.Bare.{HasNothing}
use Rattle.raft_log_block_cache.specs.Stored.{entries_at}
use Rattle.raft_log_dual_pipes.specs.Pipes.{LogRecordValue}
use Rattle.raft_log_purge.specs.raft_log_engine_laws.proofs.Public.{tables_tell}
use Rattle.raft_log_purge.specs.raft_log_engine_laws.specs.EngineState.{LogDirectories, LogMap, EngineState, has_failed}
use Rattle.raft_log_purge.specs.raft_log_engine_laws.specs.Fetching.{AreEntriesOf, AreToRead, FailsToFetch, FailsToTell, FetchesTo, HadFailed, IsEntryTold, TellsEntry}
use Rattle.raft_log_purge.specs.raft_log_engine_laws.specs.Holding.{Represents}
use Rattle.raft_log_purge.specs.raft_log_engine_laws.specs.Reading.{IsFirstIn, ReadsKeys, ReadsValue}
use Rattle.raft_log_world.specs.Model.ModelLog.{running}
use Rattle.raft_log_world.specs.Reads.{Contents, Fetches, HasEntries, IsCount, Scans}
use Rattle.raft_log_engine_core.specs.Messages.{ScansMessages}
use Rattle.raft_log_engine_core.specs.Reads.{IsUncopied, Lives, ScansKeys}
use Rattle.raft_log_engine_core.specs.Whole.{IsMessageUntold, TellsMessage}
use Rattle.raft_log_engine_core.specs.ModelCalls.{ArePairsOf, FetchesMessages, FollowsModel, IsMessageIn, IsValueOf, ModelReads, ScansInModel, ScansMessagesInModel}
use Rattle.raft_log_engine_core.proofs.ModelCalls.{failed_before, lived}

-- How many entries are read.

length_entries : (v : Shown) (n : ℕ) (ps : List Place) → length (entries_from v n ps) ≡ length ps
length_entries v n [] = refl
length_entries v n (p ∷ ps) = ap suc (length_entries v (n + 1) ps)

fitting_le : (left : ℕ) (ps : List Place) → fitting left ps ≤ length ps
fitting_le left [] = let low : 0 ≤ 0 = omega arith in low
fitting_le left (p ∷ ps) = by (nat_le p.entry_len left) (fitting_le (left - p.entry_len) ps)
  where
    by : (b : Bool) → fitting (left - p.entry_len) ps ≤ length ps → (if b then suc (fitting (left - p.entry_len) ps) else 0) ≤ suc (length ps)
    by true rest = omega (arith, rest)
    by false rest = omega arith

sized_le : (max : Option ℕ) (ps : List Place) → sized max ps ≤ length ps
sized_le None ps = omega arith
sized_le (Some max) [] = let low : 0 ≤ 0 = omega arith in low
sized_le (Some max) (p ∷ ps) = by (nat_le p.entry_len max)
  where
    by : (b : Bool) → (if b then suc (fitting (max - p.entry_len) ps) else 1) ≤ suc (length ps)
    by true = let rest = fitting_le (max - p.entry_len) ps in omega (arith, rest)
    by false = omega arith

sized_some : (max : ℕ) (ps : List Place) → 0 < length ps → 0 < sized (Some max) ps
sized_some max [] some = absurd (let never : 0 < 0 = some in omega (arith, never))
sized_some max (p ∷ ps) some = by (nat_le p.entry_len max)
  where
    by : (b : Bool) → 0 < (if b then suc (fitting (max - p.entry_len) ps) else 1)
    by true = omega arith
    by false = omega arith

is_count : (max : Option ℕ) (ps : List Place) (all count : ℕ) → length ps ≡ all → count ≡ sized max ps → IsCount max all count
is_count None ps all count same is = is ∙ same
is_count (Some max) ps all count same is =
    let few = sized_le (Some max) ps in (
      omega (arith, few, is, same),
      λ some. (let one = sized_some max ps (omega (arith, some, same)) in omega (arith, one, is)),
    )

between_length : (v : Shown) (begin end : ℕ) → AreIn v begin end → length (places_between v begin end) ≡ end - begin
between_length v begin end within = by (nat_lt begin end) refl
  where
    by : (b : Bool) → nat_lt begin end ≡ b → length (places_between v begin end) ≡ end - begin
    by true c =
        let less : begin < end = grind (arith, c) in
        let low = (within less).0 in
        let high = (within less).1 in
        let rest = length-drop (begin - v.first) v.places in
        length-take-le (end - begin) (drop (begin - v.first) v.places) (omega (arith, rest, low, high, less))
    by false c =
        let more : end ≤ begin = grind (arith, c) in
        let none : end - begin ≡ 0 = omega (arith, more) in
        ap (λ (n : ℕ). length (take n (drop (begin - v.first) v.places))) none ∙ sym none

fetched_length : (v : Shown) (begin end : ℕ) (max : Option ℕ) → length (fetched v begin end max) ≡ sized max (places_between v begin end)
fetched_length v begin end max =
    let ps = places_between v begin end in
    length_entries v (begin - v.first) (take (sized max ps) ps) ∙ length-take-le (sized max ps) ps (sized_le max ps)

-- What the map has.

some_at : {A : Type 0} (xs : List A) (k : ℕ) → k < length xs → (x : A) × (slice_get xs k ≡ Some x)
some_at [] k less = absurd (let never : k < 0 = less in omega (arith, never))
some_at (x ∷ xs) zero less = (x, refl)
some_at (x ∷ xs) (suc k) less = some_at xs k (let more : suc k < suc (length xs) = less in omega (arith, more))

length_mapped : {A B : Type 0} (f : A → B) (xs : List A) → length (map f xs) ≡ length xs
length_mapped f [] = refl
length_mapped f (x ∷ xs) = ap suc (length_mapped f xs)

length_located : (n : ℕ) (ps : List Place) → length (located n ps) ≡ length ps
length_located zero ps = length_mapped (in_queue true) ps
length_located (suc n) [] = refl
length_located (suc n) (p ∷ ps) = ap suc (length_located n ps)

le_true : (a b : ℕ) → a ≤ b → nat_le a b ≡ true
le_true a b low = grind (arith, low)

module _ (s : EngineState) (g : ℕ) (home : LogDirectories) (m : LogMap) (pending : List LogRecordValue) (h : Represents home s m pending) where
  mapped_at : (i : ℕ) (l : Located) → (s.tables g).first ≤ i → slice_get (located (s.tables g).rewritten (s.tables g).places) (i - (s.tables g).first) ≡ Some l
      → taken m pending g (Index i) ≡ Some (Entry (entries_at h.state l))
  mapped_at i l low is =
      let v = s.tables g in
      let at = entries_at h.state in
      let here : h.map g (Index i) ≡ Some (Entry (at l)) =
      sym (h.meant.meant g (Index i))
      ∙ ap (λ (b : Bool). option_map (renamed_content {V = List ℕ} at) (if b then option_map Entry (slice_get (located v.rewritten v.places) (i - v.first)) else None))
      (le_true v.first i low)
      ∙ ap (λ (o : Option Located). option_map (renamed_content {V = List ℕ} at) (option_map Entry o)) is in
      subst (λ (k : LogMap). k g (Index i) ≡ Some (Entry (at l))) h.at.stands.map here

  -- an index that the table has is one that the map has
  in_map : (i : ℕ) → (s.tables g).first ≤ i → i < (s.tables g).first + length (s.tables g).places → taken m pending g (Index i) ≡ None → ⊥
  in_map i low high none =
      let v = s.tables g in
      let long = length_located v.rewritten v.places in
      let there = some_at (located v.rewritten v.places) (i - v.first) (omega (arith, long, low, high)) in
      let is = sym none ∙ mapped_at i there.0 low there.1 in
      let never : ⊥ = cc in never

  -- without entries in the table, there are none in the map
  none_in_map : length (s.tables g).places ≡ 0 → (i : ℕ) → taken m pending g (Index i) ≡ None
  none_in_map none =
      let v = s.tables g in
      let nothing : first_of v ≡ None = ap (λ (n : ℕ). if nat_lt 0 n then Some v.first else None) none in
      let first : IsFirstIn (taken m pending) g None = subst (IsFirstIn (taken m pending) g) nothing ((tables_tell.first s g).exact home m pending h) in
      first

-- Any read.

-- one that succeeded
read_right : {A : Type 0} (is : Contents → A → Type 0) (x : A) (s t : EngineState) → has_failed s ≡ false → ((home : LogDirectories) (m : LogMap) (pending : List LogRecordValue) → Represents home s m pending → Represents home t m pending)
    → ((home : LogDirectories) (m : LogMap) (pending : List LogRecordValue) → Represents home s m pending → is (taken m pending) x) → FollowsModel (ModelReads is) (Ok x) s t
read_right is x s t lives stays exact = lived (ModelReads is) (Ok x) s t lives (λ home m pending h. (running m pending, (exact home m pending h, refl), stays home m pending h))

-- one that failed
read_fails : {A : Type 0} (is : Contents → A → Type 0) (error : Error) (s t : EngineState) → has_failed s ≡ false → ((home : LogDirectories) (m : LogMap) (pending : List LogRecordValue) → Represents home s m pending → Represents home t m pending)
    → FollowsModel (ModelReads is) (Err error) s t
read_fails is error s t lives stays = lived (ModelReads is) (Err error) s t lives (λ home m pending h. (running m pending, refl, stays home m pending h))

-- one that changed nothing and failed
pub not_read : {A : Type 0} (is : Contents → A → Type 0) (error : Error) (s : EngineState) → has_failed s ≡ false → FollowsModel (ModelReads is) (Err error) s s
not_read is error s lives = read_fails is error s s lives (λ home m pending h. h)

-- Values.

pub value_told : (r : Result (Option (Vec ℕ)) Error) (s : EngineState) (group : ℕ) (key : List ℕ) → has_failed s ≡ false → IfOk r (λ value. ReadsValue s group key (option_map (λ bytes. bytes.items) value)) → FollowsModel (ModelReads (IsValueOf group key)) r s s
value_told (Ok value) s group key lives reads = read_right (IsValueOf group key) value s s lives (λ home m pending h. h) reads.exact
value_told (Err error) s group key lives reads = not_read (IsValueOf group key) error s lives

-- Reads that copy what they return.

-- one that failed: the engine had failed, or memory ran out
pub uncopied : {A : Type 0} (is : Contents → A → Type 0) (error : Error) (s : EngineState) → IsUncopied s error → FollowsModel (ModelReads is) (Err error) s s
uncopied is error s (inl (same, fails)) = failed_before (ModelReads is) s s error (same, fails, refl)
uncopied is error s (inr (memory, lives)) = not_read is error s lives

module _ {M : Type 0} (reading : List ℕ → Option M) (s : EngineState) (group : ℕ) (key : List ℕ) where
  -- the value of a key as a message
  message_told : (message : Option M) → Lives s → TellsMessage reading s group key message → FollowsModel (ModelReads (IsMessageIn reading group key)) (Ok message) s s
  message_told message lives (value, reads, is) =
      read_right (IsMessageIn reading group key) message s s lives (λ home m pending h. h) (λ home m pending h. (value, reads.exact home m pending h, is))

  -- one that isn't, or that can't be copied
  message_untold : (error : Error) → IsMessageUntold reading s group key error → FollowsModel (ModelReads (IsMessageIn reading group key)) (Err error) s s
  message_untold error (inl why) = uncopied (IsMessageIn reading group key) error s why
  message_untold error (inr (lives, value)) = not_read (IsMessageIn reading group key) error s lives

  pub message_read : (r : Result (Option M) Error) → IfOk r (TellsMessage reading s group key) → OnOk r (Lives s) → IfErr r (IsMessageUntold reading s group key) → FollowsModel (ModelReads (IsMessageIn reading group key)) r s s
  message_read (Ok message) tells lives why = message_told message lives tells
  message_read (Err error) tells lives why = message_untold error why

-- Entries.

module _ {M : Type 0} (reading : List ℕ → Option M) (s t : EngineState) (group index : ℕ) where
  pub entry_told : (message : Option M) → TellsEntry reading group index s t message → FollowsModel (ModelReads (λ m. IsEntryTold reading m group index)) (Ok message) s t
  entry_told message tells = read_right (λ m. IsEntryTold reading m group index) message s t tells.lived tells.stays.holds tells.exact

  pub entry_not_told : (error : Error) → HadFailed s t error ⊎ FailsToTell reading group index s t error → FollowsModel (ModelReads (λ m. IsEntryTold reading m group index)) (Err error) s t
  entry_not_told error (inl had) = failed_before (ModelReads (λ m. IsEntryTold reading m group index)) s t error had
  entry_not_told error (inr f) = read_fails (λ m. IsEntryTold reading m group index) error s t f.lived f.stays.holds

-- Fetches.

-- the entries that were read as these messages
entries_told : {M : Type 0} (reading : List ℕ → Option M) (m : LogMap) (g i : ℕ) (messages : List M) → AreEntriesOf reading m g i messages
    → (entries : List (List ℕ)) × HasEntries m g i entries × (map reading entries ≡ map Some messages) × (length entries ≡ length messages)
entries_told reading m g i [] told = ([], tt, refl, refl)
entries_told {M} reading m g i (x ∷ xs) ((bytes, there, reads), more) =
    let (entries, are, read, long) = entries_told reading m g (i + 1) xs more in
    (bytes ∷ entries, (there, are), ap₂ (λ (o : Option M) (os : List (Option M)). o ∷ os) reads read, ap suc long)

without : {A : Type 0} (xs : List A) → length xs ≡ 0 → xs ≡ []
without [] none = refl
without (x ∷ xs) none = absurd (let never : suc (length xs) ≡ 0 = none in omega (arith, never))

module _ {M : Type 0} (reading : List ℕ → Option M) (s t : EngineState) (group begin end : ℕ) (max : Option ℕ) (old new : List M) where
  abbrev Is : Contents → ℕ → Type 0
  Is m count = FetchesMessages reading group begin end max old new m count

  module _ (count : ℕ) (bare : s.counts group ≡ false → HasNothing (s.tables group)) (f : FetchesTo reading group begin end max s t old new count) where
    module _ (home : LogDirectories) (m : LogMap) (pending : List LogRecordValue) (h : Represents home s m pending) where
      fetched_so : (entries : List (List ℕ)) → HasEntries (taken m pending) group begin entries → length entries ≡ length f.messages → AreToRead s group begin end max f.entries → Fetches (taken m pending) group begin end max entries
      fetched_so entries are long (inl (uncounted, none)) = inl (
        λ i low high. none_in_map s group home m pending h (bare uncounted).entries i,
        without entries (long ∙ sym f.counts.0 ∙ f.counts.1 ∙ ap length none),
      )
      fetched_so entries are long (inr (counted, within, is)) =
          let v = s.tables group in
          let all : length entries ≡ sized max (places_between v begin end) = long ∙ sym f.counts.0 ∙ f.counts.1 ∙ ap length is ∙ fetched_length v begin end max in
          inr (record {
            are = are;
            all = λ i low high. (let inside = within (omega (arith, low, high)) in in_map s group home m pending h i (omega (arith, inside.0, low)) (omega (arith, inside.1, high)));
            count = is_count max (places_between v begin end) (end - begin) (length entries) (between_length v begin end within) all;
          })

      are_fetched : Is (taken m pending) count
      are_fetched =
          let (entries, are, read, long) = entries_told reading (taken m pending) group begin f.messages (f.exact home m pending h) in
          record { entries = entries; messages = f.messages; fetches = fetched_so entries are long f.read; read = read; adds = f.adds; counts = f.counts.0 }

    pub entries_fetched : FollowsModel (ModelReads Is) (Ok count) s t
    entries_fetched = read_right Is count s t f.lived f.stays.holds are_fetched

  pub entries_not_fetched : (error : Error) → HadFailed s t error ⊎ FailsToFetch reading group begin end s t error → FollowsModel (ModelReads Is) (Err error) s t
  entries_not_fetched error (inl had) = failed_before (ModelReads Is) s t error had
  entries_not_fetched error (inr f) = read_fails Is error s t f.lived f.stays.holds

-- Scans.

module _ (s : EngineState) (group : ℕ) (start end : Option (List ℕ)) where
  scans : (pairs : List (List ℕ × List ℕ)) → ReadsKeys s group start end pairs → (home : LogDirectories) (m : LogMap) (pending : List LogRecordValue) → Represents home s m pending → Scans (taken m pending) group start end pairs
  scans pairs reads home m pending h =
      let are = reads.exact home m pending h in
      record { rising = are.rising; inside = are.inside; outside = are.outside }

  pub pairs_told : (pairs : Vec (List ℕ × List ℕ)) → has_failed s ≡ false → ReadsKeys s group start end pairs.items
      → FollowsModel (ModelReads (ArePairsOf group start end)) (Ok pairs) s s
  pairs_told pairs lives reads = read_right (ArePairsOf group start end) pairs s s lives (λ home m pending h. h) (scans pairs.items reads)

  pub keys_scanned : {F : Type 0} (called : F → List ℕ → List ℕ → Bool → F → Type 0) (callback : F) (backwards : Bool) → has_failed s ≡ false → ScansKeys called callback s group start end backwards
      → FollowsModel (ModelReads (ScansInModel called callback group start end backwards)) (Ok tt) s s
  keys_scanned called callback backwards lives (pairs, reads, visits) =
      read_right (ScansInModel called callback group start end backwards) tt s s lives (λ home m pending h. h) (λ home m pending h. (pairs, scans pairs reads home m pending h, visits))

  messages_scanned : {F M : Type 0} (reading : List ℕ → Option M) (called : F → List ℕ → M → Bool → F → Type 0) (callback : F) (backwards : Bool) → Lives s
      → ScansMessages reading called callback s group start end backwards
      → FollowsModel (ModelReads (ScansMessagesInModel reading called callback group start end backwards)) (Ok tt) s s
  messages_scanned reading called callback backwards lives (pairs, reads, visits) =
      read_right (ScansMessagesInModel reading called callback group start end backwards) tt s s lives (λ home m pending h. h)
      (λ home m pending h. (pairs, scans pairs reads home m pending h, visits))

  pub messages_read : {F M : Type 0} (reading : List ℕ → Option M) (called : F → List ℕ → M → Bool → F → Type 0) (callback : F) (backwards : Bool) (r : Result (Unit {0}) Error)
      → OnOk r (ScansMessages reading called callback s group start end backwards) → OnOk r (Lives s) → IfErr r (IsUncopied s)
      → FollowsModel (ModelReads (ScansMessagesInModel reading called callback group start end backwards)) r s s
  messages_read reading called callback backwards (Ok done) scans lives why = messages_scanned reading called callback backwards lives scans
  messages_read reading called callback backwards (Err error) scans lives why = uncopied (ScansMessagesInModel reading called callback group start end backwards) error s why
