-- Entries that are fetched are the voter's.
use Rattle.std.proofs.Common.{◌≡◌, ◌∙◌, ◌⊎◌, ℕ, suc, ◌+◌, ◌-◌, ◌<◌, ◌≤◌, nat_lt, true, List, [], ◌∷◌, length, take, drop, map, slice_get, Option, Some, None, Err, refl, sym, ap, subst, inl, inr, arith, take_all, length-drop, length-take-le}
use Rattle.std.proofs.lemmas.Bool.{cases_lt}
use Rattle.raft_log_model_laws.specs.Meaning.Slot.{Index}
use Rattle.raft_log_model_laws.specs.Groups.{taken}
use Rattle.raft_log_model_laws.proofs.Public.{if_false, if_true, lt_true}
use Rattle.raft_log_record_base.specs.declared.errors.Error.{Error}
use Rattle.raft_log_record_base.specs.declared.errors.Error.TheVariants as errors
use Rattle.raft_log_record_items.specs.Message.{Parses}
use Rattle.raft_log_extents.specs.declared.place.Place.{Place}
use Rattle.raft_log_memtable_index.specs.Shown.{Shown}
use Rattle.raft_log_engine_laws.specs.raft_log_memtable.specs.Reads.{AreIn, FetchRefused, entries_from, fetched, first_of, last_of, places_between}
use Rattle.raft_log_engine_laws.specs.EngineState.{LogDirectories, LogMap, EngineState}
use Rattle.raft_log_engine_laws.specs.Holding.{Represents}
use Rattle.raft_log_engine_laws.specs.Reading.{IsFirstIn, IsLastIn}
use Rattle.raft_log_engine_laws.specs.Fetching.{AreEntriesOf, AreToRead, FailsToFetch, FetchesTo, IsOneUntold}
use Rattle.raft_log_engine_laws.specs.raft_log_block_cache.specs.Blocks.{IsFileUnread}
use Rattle.raft_log_engine_laws.specs.raft_log_dual_pipes.specs.Pipes.{LogRecordValue}
use Rattle.raft_log_engine_laws.specs.raft_log_memtables.proofs.Public.{uncounted_bare}
use Rattle.raft_log_engine_laws.proofs.Public.{tables_tell}
use Rattle.raft_voter_messages.specs.declared.reply.Entry.{Entry as VoterEntry}
use Rattle.raft_voter_messages.proofs.Public.{one_entry}
use Rattle.raft_voter_messages.specs.StoredForms.{IsEntry}
use Rattle.raft_voter_messages.specs.declared.request.Request.{Request}
use Rattle.raft_voter_messages.specs.declared.request.Request.TheVariants.{Read}
use Rattle.raft_voter_outline.specs.declared.outline.decision.Answer.TheVariants as answers
use Rattle.raft_voter_outline.specs.Outlines.{IsReplyOfEach}
use Rattle.raft_voter_outline.specs.Rules.{entries_between, numbered}
use Rattle.raft_voter_outline.specs.State.{State, last_index}
use Rattle.raft_voter.specs.InRange.{IsStorable}
use Rattle.raft_voter.specs.Laws.{AreReadAs}
use Rattle.raft_voter.specs.Rounds.{World}
use Rattle.raft_voter_records.specs.Voters.{Means, entry_content}
use Rattle.raft_voter_records.proofs.Public.{content_above, drop_here, ends, entry_of, entry_stored, shown, unmapped}
use Rattle.raft_voter_durability_laws.specs.Standing.{AreOutlines}
use Rattle.raft_voter_durability_laws.specs.Requests.{WasTurnedDown}
use Rattle.raft_voter_durability_laws.specs.Requests.WasTurnedDown.{no_memory, unread}
use Rattle.raft_voter_durability_laws.specs.Reads.{IsCounted, IsRaw, ReadsEntries, ReadsNone}
use Rattle.raft_voter_durability_laws.specs.Laws.{EnginesAreCounted}

-- a voter has an entry at each index above its base, up to the last
pub has_entry : (v : State) (i : ℕ) → v.base_index < i → i ≤ last_index v → entry_content v i ≡ None → ⊥
has_entry v i high low none =
    let gone = unmapped i (slice_get v.log (i - v.base_index - 1)) (sym (content_above v.base_index v.log i high) ∙ none) in
    let short = ends v.log (i - v.base_index - 1) gone in
    omega (arith, short, high, low)

-- How many come.

length-entries_from : (v : Shown) (n : ℕ) (ps : List Place) → length (entries_from v n ps) ≡ length ps
length-entries_from v n [] = refl
length-entries_from v n (p ∷ ps) = let more = length-entries_from v (n + 1) ps in omega (arith, more)

all_fetched : (v : Shown) (from to : ℕ) → from < to → AreIn v from to → length (fetched v from to None) ≡ to - from
all_fetched v from to some inside =
    let ends_in = inside some in
    let rest : length (drop (from - v.first) v.places) ≡ length v.places - (from - v.first) = length-drop (from - v.first) v.places in
    let enough : to - from ≤ length (drop (from - v.first) v.places) = omega (arith, rest, ends_in.0, ends_in.1) in
    let size : length (places_between v from to) ≡ to - from = length-take-le (to - from) (drop (from - v.first) v.places) enough in
    length-entries_from v (from - v.first) (take (length (places_between v from to)) (places_between v from to))
    ∙ ap length (take_all (length (places_between v from to)) (places_between v from to) (omega arith)) ∙ size

-- What they are.

module _ {M : Type 0} (text : M → List ℕ) (reading : List ℕ → Option M) (raw : IsRaw text reading) where
  same_text : (bytes : List ℕ) (x : M) → reading bytes ≡ Some x → text x ≡ bytes
  same_text bytes x is =
      let own = raw bytes in
      let same : own.0 ≡ x = let first = own.1 in cc in
      ap text (sym same) ∙ own.2

  read_is : (v : State) (storable : IsStorable v) (m : LogMap) (g : ℕ) → ((j : ℕ) → m g (Index j) ≡ entry_content v j)
      → (i pos : ℕ) → v.base_index < i → pos ≡ i - v.base_index - 1 → (xs : List M) (es : List VoterEntry) → AreEntriesOf reading m g i xs
      → AreReadAs i (map text xs) es → es ≡ numbered i (take (length xs) (drop pos v.log))
  read_is v storable m g same i pos high at [] [] h read = refl
  read_is v storable m g same i pos high at [] (e ∷ es) h read = absurd read
  read_is v storable m g same i pos high at (x ∷ xs) [] h read = absurd read
  read_is v storable m g same i pos high at (x ∷ xs) (e ∷ es) h read =
      let own = h.0 in
      let bytes : text x ≡ own.0 = same_text own.0 x own.2 in
      let there = entry_stored v storable i own.0 (sym (same i) ∙ own.1) in
      let stored : IsEntry (text x) i (entry_of i there.0) = subst (λ (b : List ℕ). IsEntry b i (entry_of i there.0)) (sym bytes) there.3 in
      let one = (one_entry (text x) i i e (entry_of i there.0) read.0 stored).1 in
      let found : slice_get v.log pos ≡ Some there.0 = ap (slice_get v.log) at ∙ there.2 in
      let rest : drop pos v.log ≡ there.0 ∷ drop (pos + 1) v.log = drop_here v.log pos there.0 found in
      let others = read_is v storable m g same (i + 1) (pos + 1) (omega arith) (omega (arith, at, high)) xs es h.1 read.1 in
      ap (λ d. d ∷ es) one ∙ ap (λ l. entry_of i there.0 ∷ l) others
      ∙ ap (λ l. numbered i (take (suc (length xs)) l)) (sym rest)

  -- a group that shows no entry has none
  none_shown : (t : Shown) (m : LogMap) (g : ℕ) → IsLastIn m g (last_of t) → length t.places ≡ 0 → (i : ℕ) → m g (Index i) ≡ None
  none_shown t m g last empty =
      let is : last_of t ≡ None = if_false (nat_lt 0 (length t.places)) (Some (t.first + (length t.places - 1))) None (ap (λ n. nat_lt 0 n) empty) in
      subst (λ (o : Option ℕ). IsLastIn m g o) is last

  pub fetched_entries_are_read : (q : ℕ × Request) (from to count : ℕ) (s t : EngineState) (os : ℕ → State) (messages : List M) (es : List VoterEntry)
      → IsCounted s → IsReplyOfEach (os q.0) q.1 (answers.Entries from to) → FetchesTo reading q.0 from to None s t [] messages count
      → AreReadAs from (map text messages) es → ReadsEntries q.0 from to s t os es
  fetched_entries_are_read q from to count s t os messages es counted told f read = record { alive = f.lived; stays = f.stays; exact = exact }
    where
      size : (v : State) (m : LogMap) → v.base_index < from → from < to → to ≤ last_index v + 1 → IsLastIn m q.0 (last_of (s.tables q.0))
          → ((j : ℕ) → m q.0 (Index j) ≡ entry_content v j) → AreToRead s q.0 from to None f.entries → length f.entries ≡ to - from
      size v m high some low last same (inl empty) =
          absurd (has_entry v from high (omega (arith, some, low)) (sym (same from) ∙ none_shown (s.tables q.0) m q.0 last (counted q.0 empty.0) from))
      size v m high some low last same (inr all) = ap length all.2 ∙ all_fetched (s.tables q.0) from to some all.1

      exact : (home : LogDirectories) (m : LogMap) (pending : List LogRecordValue) (W : World) → Represents home s m pending → Means (taken m pending) W → AreOutlines os W
          → es ≡ entries_between (W q.0) from to
      exact home m pending W h means outlines =
          let known = shown (taken m pending q.0) (W q.0) (means q.0) in
          let there = (told (W q.0) (sym (outlines q.0))).1 in
          let last = (tables_tell.last s q.0).exact home m pending h in
          let many = size (W q.0) (taken m pending) there.1 there.2 there.3 last known.entries f.read in
          let same : messages ≡ f.messages = f.adds in
          let read' : AreReadAs from (map text f.messages) es = subst (λ (xs : List M). AreReadAs from (map text xs) es) same read in
          let is = read_is (W q.0) known.storable (taken m pending) q.0 known.entries from (from - (W q.0).base_index - 1) there.1 refl f.messages es (f.exact home m pending h) read' in
          let count_is : length f.messages ≡ to - from = sym f.counts.0 ∙ f.counts.1 ∙ many in
          is ∙ ap (λ n. numbered from (take n (drop (from - (W q.0).base_index - 1) (W q.0).log))) count_is

  -- Why they aren't.

  -- bytes are a message, unless memory runs out
  parsed : (error : Error) (bytes : List ℕ) → Parses {M = M} (Err error) (reading bytes) → error ≡ errors.Memory
  parsed error bytes h = by_error error (subst (λ (o : Option M). Parses {M = M} (Err error) o) (raw bytes).1 h)
    where
      by_error : (e : Error) → Parses {M = M} (Err e) (Some (raw bytes).0) → e ≡ errors.Memory
      by_error errors.Memory h = refl
      by_error (errors.Message text) h = cc
      by_error errors.Hole h = absurd h
      by_error errors.Full h = absurd h
      by_error (errors.InvalidArgument text) h = absurd h
      by_error (errors.Corruption text) h = absurd h
      by_error (errors.Io kind) h = absurd h
      by_error (errors.Codec fault) h = absurd h
      by_error (errors.TryAgain text) h = absurd h
      by_error errors.EntryCompacted h = absurd h
      by_error errors.EntryNotFound h = absurd h
      by_error (errors.Other fault) h = absurd h
      by_error errors.Failed h = absurd h
      by_error errors.NumberRange h = absurd h

  -- an entry isn't told: it wasn't read, or memory ran out
  one_untold : (q : ℕ × Request) (from to : ℕ) (error : Error) (s t : EngineState) (m : LogMap) → q.1 ≡ Read from to → IsOneUntold reading q.0 from to s m error → WasTurnedDown q error s t
  one_untold q from to error s t m asks (inl memory) = no_memory memory
  one_untold q from to error s t m asks (inr one) = by_why one.3.why
    where
      by_why : IsFileUnread s.pipes one.3.block error ⊎ Parses {M = M} (Err error) (reading one.3.bytes) → WasTurnedDown q error s t
      by_why (inl file) =
          unread from to asks (record { index = one.0; entry = one.3.entry; block = one.3.block; asked = (one.1, one.2); stands = one.3.stands; placed = one.3.placed; why = file })
      by_why (inr none) = no_memory (parsed error one.3.bytes none)

  -- the tables have all that the outline says is there
  not_refused : (v : State) (m : LogMap) (g from to : ℕ) (s : EngineState) (error : Error) → v.base_index < from → from < to → to ≤ last_index v + 1
      → ((j : ℕ) → m g (Index j) ≡ entry_content v j) → IsFirstIn m g (first_of (s.tables g)) → IsLastIn m g (last_of (s.tables g))
      → FetchRefused (s.tables g) from to error → error ≡ errors.Memory
  not_refused v m g from to s error high some low same first last refused = by_case refused.1
    where
      at : (i : ℕ) → from ≤ i → i < to → m g (Index i) ≡ None → ⊥
      at i a b none = has_entry v i (omega (arith, high, a)) (omega (arith, low, b)) (sym (same i) ∙ none)

      empty : length (s.tables g).places ≡ 0 → ⊥
      empty none = at from (omega arith) some (none_shown (s.tables g) m g last none from)

      by_case : ((error ≡ errors.EntryNotFound) × (length (s.tables g).places ≡ 0))
          ⊎ (((error ≡ errors.EntryCompacted) × (0 < length (s.tables g).places) × (from < (s.tables g).first))
          ⊎ (((error ≡ errors.EntryNotFound) × ((s.tables g).first ≤ from) × ((s.tables g).first + length (s.tables g).places < to))
          ⊎ ((error ≡ errors.Memory) × ((s.tables g).first ≤ from) × (to ≤ (s.tables g).first + length (s.tables g).places))))
          → error ≡ errors.Memory
      by_case (inl one) = absurd (empty one.1)
      by_case (inr (inl two)) =
          let is : first_of (s.tables g) ≡ Some (s.tables g).first =
          if_true (nat_lt 0 (length (s.tables g).places)) (Some (s.tables g).first) None (lt_true 0 (length (s.tables g).places) two.1) in
          let known : IsFirstIn m g (Some (s.tables g).first) = subst (λ (o : Option ℕ). IsFirstIn m g o) is first in
          absurd (at from (omega arith) some (known.1 from two.2))
      by_case (inr (inr (inl three))) = elim (cases_lt 0 (length (s.tables g).places)) [
        | inr none ↦ absurd (empty (omega arith))
        | inl many ↦
            let is : last_of (s.tables g) ≡ Some ((s.tables g).first + (length (s.tables g).places - 1)) =
            if_true (nat_lt 0 (length (s.tables g).places)) (Some ((s.tables g).first + (length (s.tables g).places - 1))) None (lt_true 0 (length (s.tables g).places) many) in
            let known : IsLastIn m g (Some ((s.tables g).first + (length (s.tables g).places - 1))) = subst (λ (o : Option ℕ). IsLastIn m g o) is last in
            absurd (at (to - 1) (omega (arith, some)) (omega (arith, some)) (known.1 (to - 1) (omega (arith, three.2, many))))
      ]
      by_case (inr (inr (inr four))) = four.0

  pub unfetched_entries_are_unread : (q : ℕ × Request) (from to : ℕ) (error : Error) (s t : EngineState) (os : ℕ → State)
      → IsReplyOfEach (os q.0) q.1 (answers.Entries from to) → FailsToFetch reading q.0 from to s t error → ReadsNone q error s t os
  unfetched_entries_are_unread q from to error s t os told f = record {
    alive = f.lived;
    stays = f.stays;
    why = λ home m pending W h means outlines. by_why home m pending W h means outlines f.why;
  }
    where
      by_why : (home : LogDirectories) (m : LogMap) (pending : List LogRecordValue) (W : World) → (h : Represents home s m pending) → Means (taken m pending) W → AreOutlines os W
          → ((s.counts q.0 ≡ true) × FetchRefused (s.tables q.0) from to error)
          ⊎ ((home : LogDirectories) (m : LogMap) (pending : List LogRecordValue) → Represents home s m pending → IsOneUntold reading q.0 from to s (taken m pending) error)
          → WasTurnedDown q error s t
      by_why home m pending W h means outlines (inl refused) =
          let known = shown (taken m pending q.0) (W q.0) (means q.0) in
          let there = (told (W q.0) (sym (outlines q.0))).1 in
          no_memory (not_refused (W q.0) (taken m pending) q.0 from to s error there.1 there.2 there.3 known.entries
          ((tables_tell.first s q.0).exact home m pending h) ((tables_tell.last s q.0).exact home m pending h) refused.1)
      by_why home m pending W h means outlines (inr untold) =
          let there = (told (W q.0) (sym (outlines q.0))).1 in
          one_untold q from to error s t (taken m pending) there.0 (untold home m pending h)

-- Groups that count.

pub engines_are_counted : EnginesAreCounted
engines_are_counted v tables cache g none = (uncounted_bare tables g none).entries
