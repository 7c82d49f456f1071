-- What of a group is read, and what it says of its voter.
use Rattle.std.proofs.Common.{◌≡◌, ◌∙◌, ℕ, zero, suc, ◌+◌, ◌-◌, ◌^◌, ◌<◌, ◌≤◌, ◌&&◌, nat_le, true, List, [], ◌∷◌, length, map, slice_get, Option, Some, None, option_map, refl, sym, ap, ap₂, subst, inl, inr, arith, add-zero}
use Rattle.std.proofs.lemmas.Bool.{and_parts, cases_lt}
use Rattle.std.proofs.lemmas.List.{length-map}
use Rattle.std.proofs.lemmas.Option.{slice_get_cases, slice_get_past}
use Rattle.std.specs.List.{list_all}
use Rattle.raft_log_model_laws.specs.Meaning.{Content}
use Rattle.raft_log_model_laws.specs.Meaning.Slot.{Key}
use Rattle.raft_log_model_laws.specs.Meaning.Content.{Entry, Value}
use Rattle.raft_log_model_laws.proofs.Public.{from_le_true, if_false, if_true, le_false, le_true}
use Rattle.raft_voter_messages.specs.declared.reply.Entry.{Entry as VoterEntry}
use Rattle.raft_voter_messages.specs.declared.reply.VoterState.{VoterState}
use Rattle.raft_voter_messages.specs.Laws.{bare}
use Rattle.raft_voter_messages.specs.Ranges.{entry_fits, fits}
use Rattle.raft_voter_messages.specs.StoredForms.{IsBareState, IsEntry, IsState, entry_text, state_fits, stored_entry_fits, vote_fits}
use Rattle.raft_voter_messages.proofs.Public.{entries_are_read_back, one_entry_fault, one_state, one_state_fault}
use Rattle.raft_voter_outline.specs.Outlines.{stored_state}
use Rattle.raft_voter_outline.specs.Rules.{numbered}
use Rattle.raft_voter_outline.specs.State.{State}
use Rattle.raft_voter_outline.proofs.Public.{Pair}
use Rattle.raft_voter.specs.InRange.{IsInRange, IsStorable}
use Rattle.raft_voter.specs.Laws.{AreReadAs, log_entries}
use Rattle.raft_voter.proofs.Public.{entries_in_range, length-numbered}
use Rattle.raft_voter_records.specs.Voters.{Group, IsVoter, stored_entry, voter_key}
use Rattle.raft_voter_records.specs.Readings.{read_voter, run_content}
use Rattle.raft_voter_records.specs.Readings.HasForeign.{other_key, no_state, broken_state, below_base, behind_gap, broken_entry, too_far}
use Rattle.raft_voter_records.specs.Laws.{ForeignGroupsAreForeign, ReadGroupsHoldVoters, VotersAreRead}
use Rattle.raft_voter_records.proofs.Entries.{as_entry, content_above, content_at, content_below, text_at}
use Rattle.raft_voter_records.proofs.Leading.{shown}
use Rattle.raft_voter_records.proofs.Owning.{entry_of, fits_at}

-- a term and the bytes of an entry
abbrev pub pair_of : VoterEntry → Pair
pair_of e = (e.term, e.bytes)

-- What is read of a group.

bare_is : (s : VoterState) → IsBareState s → s ≡ bare s
bare_is s b = ap₂ (λ i t. record s { last_index = i; last_term = t }) b.last_index b.last_term

-- an entry in range, without its index
entry_is_in_range : (e : VoterEntry) → stored_entry_fits e ≡ true → entry_fits (pair_of e) ≡ true
entry_is_in_range e h =
    let outer = and_parts (fits e.index && fits e.term) (nat_le (length e.bytes) 65535) h in
    let inner = and_parts (fits e.index) (fits e.term) outer.0 in
    rw (inner.1, outer.1) refl

read_fit : (i : ℕ) (texts : List (List ℕ)) (es : List VoterEntry) → AreReadAs i texts es → list_all entry_fits (map pair_of es) ≡ true
read_fit i [] [] h = refl
read_fit i [] (e ∷ es) h = absurd h
read_fit i (bytes ∷ texts) [] h = absurd h
read_fit i (bytes ∷ texts) (e ∷ es) h = rw (entry_is_in_range e h.0.in_range, read_fit (i + 1) texts es h.1) refl

state_range : (s : VoterState) (es : List VoterEntry) → state_fits s ≡ true → list_all entry_fits (map pair_of es) ≡ true → IsInRange (read_voter s es)
state_range s es h log =
    let a = and_parts (fits s.term && vote_fits s.vote && fits s.base_index && fits s.base_term && fits s.commit) (nat_le s.base_index s.commit) h in
    let b = and_parts (fits s.term && vote_fits s.vote && fits s.base_index && fits s.base_term) (fits s.commit) a.0 in
    let c = and_parts (fits s.term && vote_fits s.vote && fits s.base_index) (fits s.base_term) b.0 in
    let d = and_parts (fits s.term && vote_fits s.vote) (fits s.base_index) c.0 in
    let e = and_parts (fits s.term) (vote_fits s.vote) d.0 in
    record { term = e.0; vote = e.1; base_index = d.1; base_term = c.1; commit = b.1; committed = from_le_true s.base_index s.commit a.1; log = log }

-- the bytes of an entry that was read, by its index
text_is : (i : ℕ) (bytes : List ℕ) (e : VoterEntry) → IsEntry bytes i e → bytes ≡ stored_entry i (pair_of e)
text_is i bytes e h = h.text ∙ ap (λ n. entry_text (record { index = n; term = e.term; bytes = e.bytes })) h.at_index

texts_at : (i : ℕ) (texts : List (List ℕ)) (es : List VoterEntry) → AreReadAs i texts es → (k : ℕ)
    → slice_get texts k ≡ option_map (stored_entry (i + k)) (slice_get (map pair_of es) k)
texts_at i [] [] h k = refl
texts_at i [] (e ∷ es) h k = absurd h
texts_at i (bytes ∷ texts) [] h k = absurd h
texts_at i (bytes ∷ texts) (e ∷ es) h zero =
    ap Some (text_is i bytes e h.0 ∙ ap (λ n. stored_entry n (pair_of e)) (sym (add-zero i)))
texts_at i (bytes ∷ texts) (e ∷ es) h (suc k) =
    let place : i + 1 + k ≡ i + suc k = omega arith in
    texts_at (i + 1) texts es h.1 k ∙ ap (λ n. option_map (stored_entry n) (slice_get (map pair_of es) k)) place

-- entries by the bytes of a run, and by a log
run_is_content : (base : ℕ) (texts : List (List ℕ)) (log : List Pair)
    → ((k : ℕ) → slice_get texts k ≡ option_map (stored_entry (base + 1 + k)) (slice_get log k))
    → (i : ℕ) → run_content (base + 1) texts i ≡ content_at base log i
run_is_content base texts log same i = elim (cases_lt base i) [
  | inl above ↦
      let place : i - (base + 1) ≡ i - base - 1 = omega arith in
      let back : base + 1 + (i - base - 1) ≡ i = omega arith in
      if_true (nat_le (base + 1) i) _ _ (le_true (base + 1) i (omega arith))
      ∙ ap (λ k. option_map Entry (slice_get texts k)) place
      ∙ ap (option_map Entry) (same (i - base - 1) ∙ ap (λ n. option_map (stored_entry n) (slice_get log (i - base - 1))) back)
      ∙ as_entry i (slice_get log (i - base - 1))
      ∙ sym (content_above base log i above)
  | inr below ↦
      if_false (nat_le (base + 1) i) _ _ (le_false (base + 1) i (omega arith)) ∙ sym (content_below base log i below)
]

pub read_groups_hold_voters : ReadGroupsHoldVoters
read_groups_hold_voters grp s es h = record {
  storable = record {
    in_range = state_range s es h.state.1.in_range (read_fit (s.base_index + 1) h.texts es h.read);
    end_fits = omega (arith, h.small, length-map es pair_of);
  };
  bytes = h.bytes;
  head = h.head;
  state = subst (IsState h.bytes) (bare_is s h.state.1) h.state;
  keys = h.keys;
  entries = λ i. h.entries i ∙ run_is_content s.base_index h.texts (map pair_of es) (texts_at (s.base_index + 1) h.texts es h.read) i;
}

-- entries in range are read of what is written of them
written_read : (i : ℕ) (log : List Pair) → list_all stored_entry_fits (numbered i log) ≡ true → AreReadAs i (map entry_text (numbered i log)) (numbered i log)
written_read i [] h = tt
written_read i (e ∷ log) h =
    let parts = and_parts (stored_entry_fits (entry_of i e)) (list_all stored_entry_fits (numbered (i + 1) log)) h in
    (entries_are_read_back (entry_of i e) parts.0, written_read (i + 1) log parts.1)

pub voters_are_read : VotersAreRead
voters_are_read grp v h = record {
  bytes = h.bytes;
  head = h.head;
  state = h.state;
  keys = h.keys;
  texts = map entry_text (log_entries v);
  entries = λ i. h.entries i ∙ sym (run_is_content v.base_index (map entry_text (log_entries v)) v.log (text_at (v.base_index + 1) v.log) i);
  read = written_read (v.base_index + 1) v.log (entries_in_range v h.storable);
  small = omega (arith, h.storable.end_fits, length-numbered (v.base_index + 1) v.log);
}

-- What shows that a group is foreign.

pub unmapped : (i : ℕ) (o : Option Pair) → ◌≡◌ {A = Option (Content (List ℕ) (List ℕ))} (option_map (λ e. Entry (stored_entry i e)) o) None → o ≡ None
unmapped i None h = refl
unmapped i (Some e) h = cc

pub ends : (log : List Pair) (k : ℕ) → slice_get log k ≡ None → length log ≤ k
ends log k none = elim (slice_get_cases log k).1 [
  | inl some ↦ let is = some.2 in absurd (cc)
  | inr past ↦ past.0
]

-- where a log has no entry above its base it has none further on
none_behind : (base : ℕ) (log : List Pair) (i j : ℕ) → base < i → i < j → content_at base log i ≡ None → content_at base log j ≡ None
none_behind base log i j high far none =
    let short : length log ≤ i - base - 1 = ends log (i - base - 1) (unmapped i (slice_get log (i - base - 1)) (sym (content_above base log i high) ∙ none)) in
    let past : length log ≤ j - base - 1 = omega (arith, short) in
    let above : base < j = omega arith in
    content_above base log j above ∙ ap (option_map (λ e. Entry (stored_entry j e))) (slice_get_past log (j - base - 1) past)

-- an entry that stands is in range, and is read of its bytes
found : (i : ℕ) (o : Option Pair) (bytes : List ℕ) → ◌≡◌ {A = Option (Content (List ℕ) (List ℕ))} (option_map (λ e. Entry (stored_entry i e)) o) (Some (Entry bytes))
    → (e : Pair) × (o ≡ Some e) × (bytes ≡ stored_entry i e)
found i None bytes h = cc
found i (Some e) bytes h = (e, refl, cc)

-- the bytes that stand at an index are those of the voter's entry there
pub entry_stored : (v : State) (storable : IsStorable v) (i : ℕ) (bytes : List ℕ) → content_at v.base_index v.log i ≡ Some (Entry bytes)
    → (p : Pair) × (v.base_index < i) × (slice_get v.log (i - v.base_index - 1) ≡ Some p) × IsEntry bytes i (entry_of i p)
entry_stored v storable i bytes is = elim (cases_lt v.base_index i) [
  | inr low ↦ let none = content_below v.base_index v.log i low in absurd (cc)
  | inl high ↦
      let there = found i (slice_get v.log (i - v.base_index - 1)) bytes (sym (content_above v.base_index v.log i high) ∙ is) in
      let place : v.base_index + 1 + (i - v.base_index - 1) ≡ i = omega arith in
      let fit = fits_at (v.base_index + 1) v.log (entries_in_range v storable) (i - v.base_index - 1) there.0 there.1 in (
        there.0,
        high,
        there.1,
        record { text = there.2; in_range = ap (λ n. stored_entry_fits (entry_of n there.0)) (sym place) ∙ fit; at_index = refl },
      )
]

no_base : (grp : Group) (v : State) (bytes : List ℕ) (s : VoterState) → IsVoter grp v → grp (Key voter_key) ≡ Some (Value bytes) → IsState bytes s
    → s.base_index ≡ v.base_index
no_base grp v bytes s (inl void) at is = let none = void.0 (Key voter_key) in absurd (cc)
no_base grp v bytes s (inr holds) at is =
    let same : holds.bytes ≡ bytes = cc (holds.head, at) in
    let one = one_state bytes s (stored_state v) is (rw same at holds.state) in
    ap (λ (r : VoterState). r.base_index) one

pub foreign_groups_are_foreign : ForeignGroupsAreForeign
foreign_groups_are_foreign grp (other_key k other some) v h = some ((shown grp v h).keys k other)
foreign_groups_are_foreign grp (no_state s some none) v (inl void) = some (void.0 s)
foreign_groups_are_foreign grp (no_state s some none) v (inr holds) = let head = holds.head in cc
foreign_groups_are_foreign grp (broken_state bytes fault at bad) v (inl void) = let none = void.0 (Key voter_key) in cc
foreign_groups_are_foreign grp (broken_state bytes fault at bad) v (inr holds) =
    let same : holds.bytes ≡ bytes = cc (holds.head, at) in
    (one_state_fault bytes fault bad).0 (stored_state v) (rw same at holds.state)
foreign_groups_are_foreign grp (below_base bytes s i at is low some) v h =
    let base = no_base grp v bytes s h at is in
    some ((shown grp v h).entries i ∙ content_below v.base_index v.log i (omega (arith, low, base)))
foreign_groups_are_foreign grp (behind_gap bytes s i j at is high far none some) v h =
    let base = no_base grp v bytes s h at is in
    let stands = (shown grp v h).entries in
    some (stands j ∙ none_behind v.base_index v.log i j (omega (arith, high, base)) far (sym (stands i) ∙ none))
foreign_groups_are_foreign grp (broken_entry i bytes fault at not bad) v h =
    let s = shown grp v h in
    let there = entry_stored v s.storable i bytes (sym (s.entries i) ∙ at) in
    (one_entry_fault bytes i fault not bad).0 (entry_of i there.0) there.3
foreign_groups_are_foreign grp (too_far i far some) v h =
    let s = shown grp v h in
    some (s.entries i ∙ past s.storable.end_fits)
  where
    past : v.base_index + length v.log < 2 ^ 63 → content_at v.base_index v.log i ≡ None
    past small =
        let high : v.base_index < i = omega arith in
        let behind : length v.log ≤ i - v.base_index - 1 = omega arith in
        content_above v.base_index v.log i high ∙ ap (option_map (λ e. Entry (stored_entry i e))) (slice_get_past v.log (i - v.base_index - 1) behind)
