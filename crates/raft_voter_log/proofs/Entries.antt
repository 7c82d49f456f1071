-- The entries that a store reads are those of its voter.
use Rattle.std.proofs.Common.{◌≡◌, ◌∙◌, ℕ, zero, suc, ◌+◌, ◌-◌, ◌<◌, ◌≤◌, nat_lt, List, [], ◌∷◌, length, take, drop, map, slice_get, Option, Some, None, refl, sym, ap, subst, inl, inr, arith}
use Rattle.std.proofs.lemmas.Bool.{cases_lt}
use Rattle.std.proofs.lemmas.List.{length-take, nil_from_length, take-take}
use Rattle.raft_log_model_laws.specs.Groups.{taken}
use Rattle.raft_log_model_laws.specs.Meaning.Slot.{Index}
use Rattle.raft_log_model_laws.proofs.Public.{if_false}
use Rattle.raft_log_record_items.specs.declared.raw_message.RawMessage.{RawMessage}
use Rattle.raft_log_memtable_index.specs.Shown.{Shown}
use Rattle.raft_voter_durability_laws.specs.raft_log_engine_laws.specs.raft_log_memtable.specs.Reads.{entries_from, fetched, last_of}
use Rattle.raft_voter_durability_laws.specs.raft_log_engine_laws.specs.raft_log_dual_pipes.specs.Pipes.{LogRecordValue}
use Rattle.raft_voter_durability_laws.specs.raft_log_engine_laws.specs.EngineState.{LogDirectories, LogMap, EngineState}
use Rattle.raft_voter_durability_laws.specs.raft_log_engine_laws.specs.Fetching.{AreEntriesOf, AreToRead}
use Rattle.raft_voter_durability_laws.specs.raft_log_engine_laws.specs.Holding.{Represents}
use Rattle.raft_voter_durability_laws.specs.raft_log_engine_laws.specs.Reading.{IsLastIn}
use Rattle.raft_voter_durability_laws.specs.raft_log_engine_laws.proofs.Public.{tables_tell}
use Rattle.raft_voter_messages.specs.declared.reply.Entry.{Entry as VoterEntry}
use Rattle.raft_voter_messages.specs.StoredForms.{IsEntry}
use Rattle.raft_voter_messages.proofs.Public.{one_entry}
use Rattle.raft_voter_outline.specs.Rules.{entries_between, numbered}
use Rattle.raft_voter_outline.specs.State.{State}
use Rattle.raft_voter.specs.InRange.{IsStorable}
use Rattle.raft_voter.specs.Laws.{AreReadAs}
use Rattle.raft_voter_records.specs.Voters.{entry_content}
use Rattle.raft_voter_records.proofs.Public.{content_above, drop_here, ends, entry_of, entry_stored, shown, unmapped}
use Rattle.raft_voter_store.specs.Reading.{raw_message}
use Rattle.raft_voter_log.specs.Entries.{ReadEntriesAreTheVoters}

-- Lists.

take_numbered : (k i : ℕ) (log : List (ℕ × List ℕ)) → take k (numbered i log) ≡ numbered i (take k log)
take_numbered zero i log = refl
take_numbered (suc k) i [] = refl
take_numbered (suc k) i (e ∷ log) = ap (λ (l : List VoterEntry). entry_of i e ∷ l) (take_numbered k (i + 1) log)

length-entries_from : (v : Shown) (n : ℕ) (ps : _) → length (entries_from v n ps) ≡ length ps
length-entries_from v n [] = refl
length-entries_from v n (p ∷ ps) = ap suc (length-entries_from v (n + 1) ps)

short : {A : Type 0} (k n : ℕ) (xs : List A) → length (take k (take n xs)) ≤ n
short k n xs = omega (arith, length-take k (take n xs), length-take n xs)

few_fetched : (v : Shown) (low high : ℕ) (max : Option ℕ) → length (fetched v low high max) ≤ high - low
few_fetched v low high max = subst (λ (n : ℕ). n ≤ high - low) (sym (length-entries_from v (low - v.first) _)) (short _ (high - low) _)

module _ (s : EngineState) (g : ℕ) (home : LogDirectories) (m : LogMap) (pending : List LogRecordValue) (h : Represents home s m pending) (v : State) (storable : IsStorable v)
    (same : (j : ℕ) → taken m pending g (Index j) ≡ entry_content v j) where
  -- an entry that was read is above the base
  read_above : (i : ℕ) (xs : List RawMessage) → 0 < length xs → AreEntriesOf raw_message (taken m pending) g i xs → v.base_index < i
  read_above i [] some has = absurd (omega (arith, some))
  read_above i (x ∷ xs) some has = (entry_stored v storable i has.0.0 (sym (same i) ∙ has.0.1)).1

  are_read : (i pos : ℕ) → v.base_index < i → pos ≡ i - v.base_index - 1 → (xs : List RawMessage) (es : List VoterEntry) → AreEntriesOf raw_message (taken m pending) g i xs
      → AreReadAs i (map (λ x. x.bytes) xs) es → es ≡ numbered i (take (length xs) (drop pos v.log))
  are_read i pos high at [] [] has read = refl
  are_read i pos high at [] (e ∷ es) has read = absurd read
  are_read i pos high at (x ∷ xs) [] has read = absurd read
  are_read i pos high at (x ∷ xs) (e ∷ es) has read =
      let own = has.0 in
      let bytes : x.bytes ≡ own.0 = same_bytes own.0 x own.2 in
      let (d, above, found, entry) = entry_stored v storable i own.0 (sym (same i) ∙ own.1) in
      let stored : IsEntry x.bytes i (entry_of i d) = subst (λ (b : List ℕ). IsEntry b i (entry_of i d)) (sym bytes) entry in
      let one = (one_entry x.bytes i i e (entry_of i d) read.0 stored).1 in
      let rest : drop pos v.log ≡ d ∷ drop (pos + 1) v.log = drop_here v.log pos d (ap (slice_get v.log) at ∙ found) in
      let others = are_read (i + 1) (pos + 1) (omega (arith, high)) (omega (arith, at, high)) xs es has.1 read.1 in
      ap (λ (f : VoterEntry). f ∷ es) one ∙ ap (λ (l : List VoterEntry). entry_of i d ∷ l) others
      ∙ ap (λ (l : List (ℕ × List ℕ)). numbered i (take (suc (length xs)) l)) (sym rest)
    where
      same_bytes : (bytes : List ℕ) (y : RawMessage) → raw_message bytes ≡ Some y → y.bytes ≡ bytes
      same_bytes bytes y is = let own : record { bytes = bytes } ≡ y = cc in ap (λ (z : RawMessage). z.bytes) (sym own)

  -- a group whose table is empty has a voter without entries
  no_log : length (s.tables g).places ≡ 0 → v.log ≡ []
  no_log empty =
      let i : ℕ = v.base_index + 1 in
      let is : last_of (s.tables g) ≡ None = if_false (nat_lt 0 (length (s.tables g).places)) (Some ((s.tables g).first + (length (s.tables g).places - 1))) None (ap (λ (n : ℕ). nat_lt 0 n) empty) in
      let last : IsLastIn (taken m pending) g (last_of (s.tables g)) = (tables_tell.last s g).exact home m pending h in
      let none : taken m pending g (Index i) ≡ None = subst (λ (o : Option ℕ). IsLastIn (taken m pending) g o) is last i in
      let gone = unmapped i (slice_get v.log (i - v.base_index - 1)) (sym (content_above v.base_index v.log i (omega arith)) ∙ sym (same i) ∙ none) in
      let short = ends v.log (i - v.base_index - 1) gone in
      nil_from_length v.log (omega (arith, short))

-- None.

none_read : (i : ℕ) (xs : List RawMessage) (es : List VoterEntry) → length xs ≡ 0 → AreReadAs i (map (λ x. x.bytes) xs) es → es ≡ []
none_read i [] [] none read = refl
none_read i [] (e ∷ es) none read = absurd read
none_read i (x ∷ xs) es none read = absurd (omega (arith, none))

none_between : (v : State) (low high : ℕ) → v.log ≡ [] → entries_between v low high ≡ []
none_between v low high none =
    ap (λ (l : List (ℕ × List ℕ)). numbered low (take (high - low) (drop (low - v.base_index - 1) l))) none ∙ ap (λ (l : List (ℕ × List ℕ)). numbered low l) (none_left (high - low) (low - v.base_index - 1))
  where
    none_dropped : (k : ℕ) → ◌≡◌ {A = List (ℕ × List ℕ)} (drop k []) []
    none_dropped zero = refl
    none_dropped (suc k) = refl

    none_left : (n k : ℕ) → ◌≡◌ {A = List (ℕ × List ℕ)} (take n (drop k [])) []
    none_left zero k = refl
    none_left (suc n) zero = refl
    none_left (suc n) (suc k) = refl

none_taken : (n : ℕ) → ◌≡◌ {A = List VoterEntry} (take n []) []
none_taken zero = refl
none_taken (suc n) = refl

-- All.

pub read_entries_are_the_voters : ReadEntriesAreTheVoters
read_entries_are_the_voters home s t V g low high max es counted keeps reads = by reads.fetches.read
  where
    pos : ℕ
    pos = low - (V g).base_index - 1

    none : length reads.messages ≡ 0 → es ≡ []
    none is = none_read low reads.messages es is reads.read

    some : 0 < length reads.messages → length reads.messages ≤ high - low → es ≡ take (length reads.messages) (entries_between (V g) low high)
    some many few =
        let known = shown (keeps.map g) (V g) (keeps.means g) in
        let has : AreEntriesOf raw_message keeps.map g low reads.messages = subst (λ (xs : List RawMessage). AreEntriesOf raw_message keeps.map g low xs) (sym reads.fetches.adds) (reads.fetches.exact home keeps.map [] keeps.holds) in
        let high' = read_above s g home keeps.map [] keeps.holds (V g) known.storable known.entries low reads.messages many has in
        let log = drop pos (V g).log in
        are_read s g home keeps.map [] keeps.holds (V g) known.storable known.entries low pos high' refl reads.messages es has reads.read
        ∙ ap (λ (l : List (ℕ × List ℕ)). numbered low l) (sym (take-take (length reads.messages) (high - low) log few))
        ∙ sym (take_numbered (length reads.messages) low (take (high - low) log))

    by : AreToRead s g low high max reads.fetches.entries → es ≡ take (length (fetched (s.tables g) low high max)) (entries_between (V g) low high)
    by (inl empty) =
        let known = shown (keeps.map g) (V g) (keeps.means g) in
        let bare = no_log s g home keeps.map [] keeps.holds (V g) known.storable known.entries (counted g empty.0) in
        none (reads.fetches.counts.1 ∙ ap length empty.1)
        ∙ sym (ap (λ (l : List VoterEntry). take (length (fetched (s.tables g) low high max)) l) (none_between (V g) low high bare) ∙ none_taken (length (fetched (s.tables g) low high max)))
    by (inr all) =
        let count : length reads.messages ≡ length (fetched (s.tables g) low high max) = reads.fetches.counts.1 ∙ ap length all.2 in
        let few = few_fetched (s.tables g) low high max in
        let many : length reads.messages ≤ high - low = omega (arith, count, few) in
        subst (λ (n : ℕ). es ≡ take n (entries_between (V g) low high)) count (elim (cases_lt 0 (length reads.messages)) [
          | inl more ↦ some more many
          | inr no_more ↦
              let zero' : length reads.messages ≡ 0 = omega (arith, no_more) in
              none zero' ∙ sym (ap (λ (n : ℕ). take n (entries_between (V g) low high)) zero')
        ])
