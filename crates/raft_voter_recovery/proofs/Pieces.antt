-- Entries that were fetched are read, or show that the group is foreign.
use Rattle.std.proofs.Common.{◌≡◌, ◌∙◌, ℕ, zero, suc, ◌+◌, ◌-◌, ◌<◌, ◌≤◌, nat_le, true, false, if◌then◌else◌, List, [], ◌∷◌, length, take, drop, map, slice_get, Option, Some, None, refl, sym, ap, subst, inl, inr, arith, add-zero, length-take, length-drop}
use Rattle.raft_log_model_laws.specs.Groups.{taken}
use Rattle.raft_log_model_laws.specs.Meaning.Slot.{Index}
use Rattle.raft_log_model_laws.specs.Meaning.Content.{Entry}
use Rattle.raft_log_record_items.specs.declared.raw_message.RawMessage.{RawMessage}
use Rattle.raft_log_record_items.specs.declared.entry.EntryIndex.{EntryIndex}
use Rattle.raft_log_extents.specs.declared.place.Place.{Place}
use Rattle.raft_log_extents.specs.Counts.{fitting, sized}
use Rattle.raft_log_memtable_index.specs.Shown.{Shown}
use Rattle.raft_voter_durability_laws.specs.raft_log_engine_laws.specs.raft_log_memtable.specs.Reads.{AreIn, entries_from, fetched, places_between}
use Rattle.raft_voter_durability_laws.specs.raft_log_engine_laws.specs.EngineState.{LogMap, EngineState}
use Rattle.raft_voter_durability_laws.specs.raft_log_engine_laws.specs.Fetching.{AreEntriesOf, AreToRead, FetchesTo}
use Rattle.raft_voter_messages.specs.declared.reply.Entry.{Entry as VoterEntry}
use Rattle.raft_voter.specs.Laws.{AreReadAs}
use Rattle.raft_voter_records.specs.Voters.{Group}
use Rattle.raft_voter_records.specs.Readings.HasForeign.{broken_entry}
use Rattle.raft_voter_records.proofs.Public.{foreign_groups_are_foreign}
use Rattle.raft_voter_durability_laws.specs.Reads.{IsCounted}
use Rattle.raft_voter_recovery.specs.declared.unread.Unread.{Unread}
use Rattle.raft_voter_recovery.specs.declared.unread.Unread.TheVariants as causes
use Rattle.raft_voter_recovery.specs.Entries.{AreNoEntries, ReadsPiece, StandFrom}
use Rattle.raft_voter_recovery.specs.Reading.{IsUnreadFor, Tells}
use Rattle.raft_voter_recovery.proofs.Refusing.{reading_of}

-- the bytes of a message
abbrev pub text_of : RawMessage → List ℕ
text_of m = m.bytes

-- How many come.

length-entries_from : (v : Shown) (n : ℕ) (ps : List Place) → length (entries_from v n ps) ≡ length ps
length-entries_from v n [] = refl
length-entries_from v n (p ∷ ps) = let more = length-entries_from v (n + 1) ps in omega (arith, more)

first_comes : (max : Option ℕ) (ps : List Place) → 0 < length ps → 0 < sized max ps
first_comes None ps some = some
first_comes (Some max) [] some = absurd (omega (arith, some))
first_comes (Some max) (p ∷ ps) some =
    elim (nat_le p.entry_len max) as (λ b. 0 < (if b then suc (fitting (max - p.entry_len) ps) else 1)) [ true ↦ omega arith | false ↦ omega arith ]

piece_fits : (v : Shown) (from to : ℕ) (max : Option ℕ) → from < to → AreIn v from to → (0 < length (fetched v from to max)) × (length (fetched v from to max) ≤ to - from)
piece_fits v from to max some inside =
    let ends = inside some in
    let ps : List Place = places_between v from to in
    let between : length ps ≡ to - from =
    omega (arith, length-take (to - from) (drop (from - v.first) v.places), length-drop (from - v.first) v.places, ends.0, ends.1, some) in
    let first = first_comes max ps (omega (arith, between, some)) in
    let cut = length-take (sized max ps) ps in
    let size = length-entries_from v (from - v.first) (take (sized max ps) ps) in
    (omega (arith, size, cut, first, between, some), omega (arith, size, cut, between))

-- of a group whose tables have entries, one comes at least, and none past the end
pub comes : (s : EngineState) (g from to count : ℕ) (max : Option ℕ) (n : ℕ) → IsCounted s → from < to → AreIn (s.tables g) from to
    → (es : List EntryIndex) → AreToRead s g from to max es → length es ≡ n → (0 < n) × (n ≤ to - from)
comes s g from to count max n counted some inside es (inl none) same =
    let empty = counted g none.0 in
    let ends = inside some in
    absurd (omega (arith, empty, ends.0, ends.1, some))
comes s g from to count max n counted some inside es (inr all) same =
    let fit = piece_fits (s.tables g) from to max some inside in
    let size = ap length all.2 in
    (omega (arith, fit.0, size, same), omega (arith, fit.1, size, same))

-- What they are.

stand_of : (m : LogMap) (g i : ℕ) (xs : List RawMessage) → AreEntriesOf reading_of m g i xs → StandFrom (m g) i (map text_of xs)
stand_of m g i [] h = tt
stand_of m g i (x ∷ xs) h =
    let own = h.0 in
    let message : RawMessage = record { bytes = own.0 } in
    let is : message ≡ x = let read = own.2 in cc in
    (subst (λ (b : List ℕ). m g (Index i) ≡ Some (Entry b)) (ap text_of is) own.1, stand_of m g (i + 1) xs h.1)

pub stand_at : (grp : Group) (i : ℕ) (texts : List (List ℕ)) → StandFrom grp i texts → (k : ℕ) (bytes : List ℕ) → slice_get texts k ≡ Some bytes → grp (Index (i + k)) ≡ Some (Entry bytes)
stand_at grp i [] h k bytes at = absurd (let no : ⊥ = cc in no)
stand_at grp i (t ∷ texts) h zero bytes at =
    let is : t ≡ bytes = cc in
    subst (λ (n : ℕ). grp (Index n) ≡ Some (Entry bytes)) (sym (add-zero i)) (subst (λ (b : List ℕ). grp (Index i) ≡ Some (Entry b)) is h.0)
stand_at grp i (t ∷ texts) h (suc k) bytes at =
    let place : i + 1 + k ≡ i + suc k = omega arith in
    subst (λ (n : ℕ). grp (Index n) ≡ Some (Entry bytes)) place (stand_at grp (i + 1) texts h.1 k bytes at)

pub length-read : (i : ℕ) (texts : List (List ℕ)) (es : List VoterEntry) → AreReadAs i texts es → length texts ≡ length es
length-read i [] [] h = refl
length-read i [] (e ∷ es) h = absurd h
length-read i (t ∷ texts) [] h = absurd h
length-read i (t ∷ texts) (e ∷ es) h = let more = length-read (i + 1) texts es h.1 in omega (arith, more)

module _ (s t : EngineState) (g from to count : ℕ) (max : Option ℕ) (old ms slice : List RawMessage) (empty : old ≡ []) (same : slice ≡ ms)
    (f : FetchesTo reading_of g from to max s t old ms count) where
  fetched_from_none : FetchesTo reading_of g from to max s t [] ms count
  fetched_from_none = subst (λ (l : List RawMessage). FetchesTo reading_of g from to max s t l ms count) empty f

  messages_are : slice ≡ fetched_from_none.messages
  messages_are = same ∙ fetched_from_none.adds

  pub stand_fetched : Tells s (λ m. StandFrom (m g) from (map text_of slice))
  stand_fetched = λ home m h.
      subst (λ (l : List RawMessage). StandFrom (m g) from (map text_of l)) (sym messages_are) (stand_of (taken m []) g from fetched_from_none.messages (fetched_from_none.exact home m [] h))

  pub piece_read : (es : List VoterEntry) → IsCounted s → from < to → AreIn (s.tables g) from to → AreReadAs from (map text_of slice) es → ReadsPiece s g from to es
  piece_read es counted some inside read =
      let many = sym (length-read from (map text_of slice) es read) ∙ ap (λ (l : List RawMessage). length (map text_of l)) messages_are ∙ length-texts fetched_from_none.messages in
      let count_is : length fetched_from_none.entries ≡ length es = sym fetched_from_none.counts.1 ∙ fetched_from_none.counts.0 ∙ sym many in
      let fit = comes s g from to count max (length es) counted some inside fetched_from_none.entries fetched_from_none.read count_is in
      record {
        run = record { texts = map text_of slice; read = read; stand = stand_fetched };
        some = fit.0;
        within = omega (arith, fit.1, some);
      }
    where
      length-texts : (l : List RawMessage) → length (map text_of l) ≡ length l
      length-texts [] = refl
      length-texts (x ∷ xs) = let more = length-texts xs in omega (arith, more)

  pub piece_unread : (cause : Unread) → AreNoEntries g from (map text_of slice) cause → IsUnreadFor cause s
  piece_unread (causes.Engine error) none = absurd none
  piece_unread causes.Memory none = tt
  piece_unread (causes.Foreign h) none =
      let b = none.1 in
      subst (λ (n : ℕ). IsUnreadFor (causes.Foreign n) s) (sym none.0) (λ home m held.
      foreign_groups_are_foreign (m g) (broken_entry (from + b.place) b.bytes b.fault (stand_at (m g) from (map text_of slice) (stand_fetched home m held) b.place b.bytes b.at) b.broken b.why))
