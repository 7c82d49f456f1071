-- No record of what a voter's group has is too long.
use Rattle.std.proofs.Common.{◌≡◌, ◌∙◌, ℕ, zero, suc, ◌+◌, ◌*◌, ◌-◌, ◌≤◌, Bool, true, false, if◌then◌else◌, nat_lt, List, [], ◌∷◌, ◌++◌, length, length-append, map, sum_by, slice_get, Option, Some, None, option_map, bytes_eq, inl, inr, refl, sym, ap, subst, arith}
use Rattle.std.specs.Cmp.Lexicographic.{slice_cmp}
use Rattle.std.specs.List.{list_all}
use Rattle.std.specs.List.Sorted.{IsStrictlySortedBy}
use Rattle.std.specs.Map.{keys_of}
use Rattle.std.specs.Ordering.{nat_cmp}
use Rattle.std.proofs.lemmas.Bool.{and_parts, cases_Bool}
use Rattle.std.proofs.lemmas.Bool.Decides.{nat_tests, not_from_Decides}
use Rattle.std.proofs.lemmas.List.Sums.{sum_by-append, sum_by-cons}
use Rattle.std.proofs.lemmas.Slice.Eq.{bytes_eq-Decides}
use Rattle.raft_log_model_laws.specs.Meaning.{Content}
use Rattle.raft_log_model_laws.specs.Meaning.Slot.{Index, Key}
use Rattle.raft_log_model_laws.specs.Meaning.Content.{Entry, Value}
use Rattle.raft_log_record_base.specs.Number.{u64_bytes}
use Rattle.raft_log_record_items.specs.declared.item.LogItem.{LogItem}
use Rattle.raft_log_record_items.specs.Items.{put_item}
use Rattle.raft_log_record_items.specs.Placed.{laid_run}
use Rattle.raft_log_record_frames.specs.Marking.{mark_key, mark_value}
use Rattle.raft_log_record_batches.specs.Entries.{bytes_len, entries_items, entries_of}
use Rattle.raft_log_record_batches.proofs.Public.{joined-length}
use Rattle.raft_voter_durability_laws.specs.raft_log_engine_laws.specs.EngineState.{LogMap}
use Rattle.raft_log_purge_copy.specs.Entries.{AreEntryBytes}
use Rattle.raft_log_purge_copy.specs.Lengths.{AreOnePiece, AreValuesIn, HasLongGroup, IsOneMark}
use Rattle.raft_voter_messages.specs.declared.reply.VoterState.{VoterState}
use Rattle.raft_voter_messages.specs.Ranges.{entry_fits, fits}
use Rattle.raft_voter_messages.specs.StoredForms.{SpellsState, head_text, number_text, vote_text}
use Rattle.raft_voter_messages.proofs.Public.{length-entry_text, length-head_text, length-number_text, length-vote_text}
use Rattle.raft_voter_outline.specs.State.{State, entry_at}
use Rattle.raft_voter.specs.Rounds.{World}
use Rattle.raft_voter_records.specs.Voters.{Group, IsVoter, Means, stored_entry, voter_key}
use Rattle.raft_voter_records.proofs.Public.{block_short, item_room, items_short, length-laid_run, put_short, run_short}

-- A voter's entries.

-- an entry of a log in range is
fits_at : (es : List (ℕ × List ℕ)) (k : ℕ) (e : ℕ × List ℕ) → list_all entry_fits es ≡ true → slice_get es k ≡ Some e → length e.1 ≤ 65535
fits_at [] k e all is = absurd (let never : ⊥ = cc in never)
fits_at (x ∷ xs) zero e all is =
    let same : x ≡ e = cc in
    let one = and_parts (entry_fits x) (list_all entry_fits xs) all in
    let two = and_parts (fits x.0) _ one.0 in
    let small : length x.1 ≤ 65535 = grind (arith, nat_tests, two) in
    subst (λ (y : ℕ × List ℕ). length y.1 ≤ 65535) same small
fits_at (x ∷ xs) (suc k) e all is = fits_at xs k e (and_parts (entry_fits x) (list_all entry_fits xs) all).1 is

-- what stands at an index of a voter has 17 to 65,552 bytes
entry_within : (i : ℕ) (o : Option (ℕ × List ℕ)) (x : List ℕ) → ((e : ℕ × List ℕ) → o ≡ Some e → length e.1 ≤ 65535)
    → ◌≡◌ {A = Option (Content (List ℕ) (List ℕ))} (option_map (λ e. Entry (stored_entry i e)) o) (Some (Entry x)) → (17 ≤ length x) × (length x ≤ 65552)
entry_within i None x small is = absurd (let never : ⊥ = cc in never)
entry_within i (Some e) x small is =
    let same : stored_entry i e ≡ x = cc in
    let long = length-entry_text (record { index = i; term = e.0; bytes = e.1 }) in
    let few = small e refl in subst (λ (y : List ℕ). (17 ≤ length y) × (length y ≤ 65552)) same (omega (arith, long), omega (arith, long, few))

at_most : (v : State) (i : ℕ) → list_all entry_fits v.log ≡ true → (e : ℕ × List ℕ) → entry_at v i ≡ Some e → length e.1 ≤ 65535
at_most v i all e is = by (nat_lt v.base_index i) is
  where
    by : (b : Bool) → (if b then slice_get v.log (i - v.base_index - 1) else None) ≡ Some e → length e.1 ≤ 65535
    by true there = fits_at v.log (i - v.base_index - 1) e all there
    by false there = absurd (let never : ⊥ = cc in never)

one_within : (grp : Group) (v : State) → IsVoter grp v → (i : ℕ) (x : List ℕ) → grp (Index i) ≡ Some (Entry x) → (17 ≤ length x) × (length x ≤ 65552)
one_within grp v (inl void) i x is = absurd (let none = void.0 (Index i) in let never : ⊥ = cc in never)
one_within grp v (inr holds) i x is = entry_within i (entry_at v i) x (at_most v i holds.storable.in_range.log) (sym (holds.entries i) ∙ is)

entries_within : (m : LogMap) (V : World) → Means m V → (g i : ℕ) (bytes : List (List ℕ)) → AreEntryBytes m g i bytes → (17 * length bytes ≤ bytes_len bytes) × (bytes_len bytes ≤ 65552 * length bytes)
entries_within m V means g i [] run = (omega arith, omega arith)
entries_within m V means g i (x ∷ xs) (here, rest) =
    let one = one_within (m g) (V g) (means g) i x here in
    let more = entries_within m V means g (i + 1) xs rest in
    let sum = sum_by-cons (λ (t : List ℕ). length t) x xs in (omega (arith, one.0, more.0, sum), omega (arith, one.1, more.1, sum))

-- of one record's there are 131,072 bytes at most, and 7,710 entries
piece_within : (m : LogMap) (V : World) → Means m V → (g i : ℕ) (bytes : List (List ℕ)) → AreEntryBytes m g i bytes → AreOnePiece bytes → (bytes_len bytes ≤ 131072) × (length bytes ≤ 7710)
piece_within m V means g i bytes run (inl few) = (let all = entries_within m V means g i bytes run in (omega (arith, all.1, few), omega (arith, few)))
piece_within m V means g i bytes run (inr small) = (let all = entries_within m V means g i bytes run in (omega (arith, small), omega (arith, all.0, small)))

-- A voter's state.

state_within : (bytes : List ℕ) (s : VoterState) → SpellsState bytes s → length bytes ≤ 42
state_within [] s never = absurd never
state_within (form ∷ body) s (inl (is, one)) =
    let long = ap (λ (l : List ℕ). length l) one.text in
    omega (arith, long, length-head_text s.term s.base_index s.base_term (vote_text s.vote) (length-vote_text s.vote))
state_within (form ∷ body) s (inr (is, two)) =
    let long = ap (λ (l : List ℕ). length l) two in
    let head = length-head_text s.term s.base_index s.base_term (vote_text s.vote) (length-vote_text s.vote) in
    omega (arith, long, head, length-append (head_text s.term (vote_text s.vote) s.base_index s.base_term) (number_text s.commit), length-number_text s.commit)

-- a voter's group has one key
one_key : (grp : Group) (v : State) → IsVoter grp v → (k w : List ℕ) → grp (Key k) ≡ Some (Value w) → (voter_key ≡ k) × (length w ≤ 42)
one_key grp v (inl void) k w is = absurd (let none = void.0 (Key k) in let never : ⊥ = cc in never)
one_key grp v (inr holds) k w is = elim (cases_Bool (bytes_eq voter_key k)) [
  | inl hit ↦ (
      let same = (bytes_eq-Decides voter_key k).0 hit in
      let head : grp (Key k) ≡ Some (Value holds.bytes) = subst (λ (n : List ℕ). grp (Key n) ≡ Some (Value holds.bytes)) same holds.head in
      let bytes : holds.bytes ≡ w = cc in
      (same, subst (λ (y : List ℕ). length y ≤ 42) bytes (state_within holds.bytes _ holds.state.0))
      )
  | inr miss ↦ absurd (let none = holds.keys k (not_from_Decides (bytes_eq voter_key k) (bytes_eq-Decides voter_key k) miss) in let never : ⊥ = cc in never)
]

-- Items.

entries_few : (indexes : List ℕ) (bytes : List (List ℕ)) → length (entries_of indexes bytes) ≤ length bytes
entries_few [] bytes = omega arith
entries_few (i ∷ is) [] = omega arith
entries_few (i ∷ is) (b ∷ bs) = omega (arith, entries_few is bs)

run_room : (g : ℕ) (indexes : List ℕ) (bytes : List (List ℕ)) → sum_by item_room (entries_items g 0 indexes bytes) ≤ 31 + 10 * length bytes
run_room g indexes [] = omega arith
run_room g indexes (x ∷ xs) =
    let run = laid_run 0 (entries_of indexes (x ∷ xs)) in
    omega (arith, run_short run, length-laid_run 0 (entries_of indexes (x ∷ xs)), entries_few indexes (x ∷ xs))

-- a key with its value isn't below itself
not_twice : (e f : List ℕ × List ℕ) (es : List (List ℕ × List ℕ)) → voter_key ≡ e.0 → voter_key ≡ f.0 → IsStrictlySortedBy (slice_cmp nat_cmp) (keys_of (e ∷ f ∷ es)) → ⊥
unfolding IsStrictlySortedBy
not_twice e f es one two once =
    let less = once.0.0 in
    let same = ap (λ (k : List ℕ). slice_cmp nat_cmp k f.0) one ∙ less in
    let own = ap (λ (k : List ℕ). slice_cmp nat_cmp voter_key k) two ∙ same in (let never : ⊥ = cc in never)

put_room : (g : ℕ) (e : List ℕ × List ℕ) → (voter_key ≡ e.0) × (length e.1 ≤ 42) → item_room (put_item g e.0 e.1) ≤ 79
put_room g e (key, small) =
    let five : length voter_key ≡ 5 = refl in
    let same = ap (λ (k : List ℕ). length k) key in omega (arith, put_short e.0 e.1, five, same, small)

values_room : (m : LogMap) (V : World) → Means m V → (g : ℕ) (pairs : List (List ℕ × List ℕ)) → AreValuesIn m g pairs → IsStrictlySortedBy (slice_cmp nat_cmp) (keys_of pairs) → sum_by item_room (map (λ e. put_item g e.0 e.1) pairs) ≤ 79
values_room m V means g [] values once = omega arith
values_room m V means g (e ∷ []) (value, rest) once = omega (arith, put_room g e (one_key (m g) (V g) (means g) e.0 e.1 value))
values_room m V means g (e ∷ f ∷ es) (value, (other, rest)) once =
    absurd (not_twice e f es (one_key (m g) (V g) (means g) e.0 e.1 value).0 (one_key (m g) (V g) (means g) f.0 f.1 other).0 once)

mark_room : (mark : List LogItem) → IsOneMark mark → sum_by item_room mark ≤ 100
unfolding mark_value u64_bytes
mark_room mark (inl none) = subst (λ (xs : List LogItem). sum_by item_room xs ≤ 100) (sym none) (omega arith)
mark_room mark (inr (number, status, is)) =
    let nine : length (mark_value number status) ≡ 9 = refl in
    let key : length mark_key ≤ 59 = omega arith in
    subst (λ (xs : List LogItem). sum_by item_room xs ≤ 100) (sym is) (omega (arith, put_short mark_key (mark_value number status), nine, key))

-- The record.

pub no_long_group : (m : LogMap) (V : World) → Means m V → HasLongGroup m → ⊥
no_long_group m V means (items, entries, of_map, long) =
    let run : List LogItem = entries_items of_map.group 0 of_map.made.indexes of_map.bytes in
    let puts : List LogItem = map (λ e. put_item of_map.group e.0 e.1) of_map.pairs in
    let within = piece_within m V means of_map.group of_map.first of_map.bytes of_map.run of_map.piece in
    let bytes : length entries ≡ bytes_len of_map.bytes = ap (λ (l : List ℕ). length l) of_map.made.joins ∙ joined-length of_map.bytes in
    let all = ap (sum_by item_room) of_map.made.are in
    let sums = sum_by-append item_room (run ++ puts) of_map.mark in
    let first = sum_by-append item_room run puts in
    let one = run_room of_map.group of_map.made.indexes of_map.bytes in
    let two = values_room m V means of_map.group of_map.pairs of_map.values of_map.once in
    let three = mark_room of_map.mark of_map.one in
    elim long [
      | inl many ↦ omega (arith, many, bytes, within.0)
      | inr much ↦ omega (arith, much, block_short entries, items_short items, all, sums, first, one, two, three, bytes, within.0, within.1)
    ]
