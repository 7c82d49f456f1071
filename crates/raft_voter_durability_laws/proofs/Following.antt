-- The record of a change may follow what an engine's tables show: it leaves no hole.
use Rattle.std.proofs.Common.{◌≡◌, ◌∙◌, ℕ, ◌+◌, ◌-◌, ◌^◌, ◌<◌, ◌≤◌, ◌==◌, ◌&&◌, nat_lt, Bool, true, false, List, [], ◌∷◌, ◌++◌, length, drop, map, slice_get, Option, Some, None, option_map, if◌then◌else◌, refl, sym, ap, subst, inl, inr, arith, length-drop}
use Rattle.std.proofs.lemmas.Bool.{cases_Bool, cases_lt}
use Rattle.std.proofs.lemmas.List.{length-map}
use Rattle.std.proofs.lemmas.Bool.Decides.{nat_tests}
use Rattle.std.proofs.lemmas.Option.{slice_get_past}
use Rattle.raft_log_model_laws.specs.Item.{Item, Tagged}
use Rattle.raft_log_model_laws.specs.Item.Item.{Run, Clean, Compact, Put, Del}
use Rattle.raft_log_model_laws.specs.Holes.{Window, is_past}
use Rattle.raft_log_model_laws.specs.Meaning.Content.{Entry}
use Rattle.raft_log_model_laws.specs.Meaning.Slot.{Index}
use Rattle.raft_log_model_laws.specs.Groups.{of_group, taken}
use Rattle.raft_log_model_laws.specs.Renamed.{renamed, renamed_tagged}
use Rattle.raft_log_model_laws.proofs.Public.{from_eq_true, if_false, if_true, lt_false, of_group_renamed}
use Rattle.raft_log_machine_laws.specs.Whereabouts.{top}
use Rattle.raft_log_record_frames.specs.Meaning.{tagged_items}
use Rattle.raft_log_record_batches.specs.Batch.{Batch}
use Rattle.raft_log_record_batches.specs.Places.{entry_bytes}
use Rattle.raft_log_memtable_index.specs.Shown.{Shown, MayAllFollow, MayFollow, next_span, span}
use Rattle.raft_log_engine_laws.specs.raft_log_memtable.specs.Reads.{last_of}
use Rattle.raft_log_engine_laws.specs.raft_log_memtables.specs.Batch.{MayFollowAll}
use Rattle.raft_log_engine_laws.specs.raft_log_memtables.proofs.Public.{items_renamed}
use Rattle.raft_log_engine_laws.specs.EngineState.{LogDirectories, LogMap, EngineState}
use Rattle.raft_log_engine_laws.specs.Holding.{Represents}
use Rattle.raft_log_engine_laws.specs.Reading.{IsLastIn}
use Rattle.raft_log_engine_laws.specs.raft_log_dual_pipes.specs.Pipes.{LogRecordValue}
use Rattle.raft_log_engine_laws.proofs.Public.{tables_tell}
use Rattle.raft_voter_messages.specs.StoredForms.{entry_text}
use Rattle.raft_voter_messages.specs.declared.request.Request.{Request}
use Rattle.raft_voter_outline.specs.declared.outline.decision.Change.{Change}
use Rattle.raft_voter_outline.specs.declared.outline.decision.Write.{Write}
use Rattle.raft_voter_outline.specs.declared.outline.decision.Write.TheVariants.{StateAlone, Entries, CompactTo, Clean as CleanWrite}
use Rattle.raft_voter_outline.specs.Outlines.{CanWrite, IsChangeOf, sent_of}
use Rattle.raft_voter_outline.specs.Rules.{is_retire, numbered}
use Rattle.raft_voter_outline.specs.State.{State, last_index}
use Rattle.raft_voter_outline.proofs.Public.{Pair}
use Rattle.raft_voter.proofs.Public.{length-numbered}
use Rattle.raft_voter.specs.Rounds.{World}
use Rattle.raft_voter_records.specs.Voters.{Means, entry_content, stored_entry}
use Rattle.raft_voter_records.specs.MeaningChanges.{Words, decided_items, run_items, tagged_with, write_items}
use Rattle.raft_voter_records.proofs.Public.{content_above, content_below, ends, other_items, own_items, put_of, put_unless, shown, unmapped}
use Rattle.raft_voter_durability_laws.specs.Requests.{SaysChange}
use Rattle.raft_voter_durability_laws.proofs.Serving.{says_items}

-- What stands for an entry doesn't matter.

module _ {E F V : Type 0} (f : E → F) where
  span_back : (w : Window) (x : Item E V) → next_span w (renamed f x) ≡ next_span w x
  span_back w (Run n []) = refl
  span_back w (Run n (e ∷ es)) =
      ap (λ k. record { first = if nat_lt w.first n && nat_lt w.first w.end then w.first else n; end = n + k }) (length-map (e ∷ es) f)
  span_back w Clean = refl
  span_back w (Compact c) = refl
  span_back w (Put k v) = refl
  span_back w (Del k) = refl

  follow_back : (w : Window) (x : Item E V) → MayFollow w (renamed f x) → MayFollow w x
  follow_back w (Run n []) h = (tt, h.1)
  follow_back w (Run n (e ∷ es)) h = (h.0, subst (λ l. n + l ≤ top) (length-map (e ∷ es) f) h.1)
  follow_back w Clean h = h
  follow_back w (Compact c) h = h
  follow_back w (Put k v) h = h
  follow_back w (Del k) h = h

  all_back : (w : Window) (xs : List (Item E V)) → MayAllFollow w (map (renamed f) xs) → MayAllFollow w xs
  all_back w [] h = tt
  all_back w (x ∷ xs) h =
      (follow_back w x h.0, all_back (next_span w x) xs (subst (λ u. MayAllFollow u (map (renamed f) xs)) (span_back w x) h.1))

  -- what may follow in each group may, whatever stands for the entries
  pub follow_all_back : (v : ℕ → Shown) (xs : List (Tagged E V)) → MayFollowAll v (map (renamed_tagged f) xs) → MayFollowAll v xs
  follow_all_back v xs h g =
      all_back (span (v g)) (of_group g xs) (subst (λ (l : List (Item F V)). MayAllFollow (span (v g)) l) (of_group_renamed f g xs) (h g))

-- The last entry.

last_stands : (v : State) (i : ℕ) → (entry_content v i ≡ None → ⊥) → (v.base_index < i) × (i ≤ last_index v)
last_stands v i some = (above, within)
  where
    above : v.base_index < i
    above = elim (cases_lt v.base_index i) [
      | inl high ↦ high
      | inr low ↦ absurd (some (content_below v.base_index v.log i low))
    ]

    within : i ≤ last_index v
    within = elim (cases_lt (last_index v) i) [
      | inr low ↦ low
      | inl past ↦
          let high : v.base_index < i = omega arith in
          let far : length v.log ≤ i - v.base_index - 1 = omega arith in
          absurd (some (content_above v.base_index v.log i high ∙ ap (option_map (λ e. Entry (stored_entry i e))) (slice_get_past v.log (i - v.base_index - 1) far)))
    ]

none_last : (v : State) → v.base_index < last_index v → entry_content v (last_index v) ≡ None → ⊥
none_last v high none =
    let gone = unmapped (last_index v) (slice_get v.log (last_index v - v.base_index - 1)) (sym (content_above v.base_index v.log (last_index v) high) ∙ none) in
    let short = ends v.log (last_index v - v.base_index - 1) gone in
    omega (arith, short, high)

-- the last entry that tables show is the voter's last
shown_last : (v : State) (m : LogMap) (g i : ℕ) → ((j : ℕ) → m g (Index j) ≡ entry_content v j) → (m g (Index i) ≡ None → ⊥)
    → ((j : ℕ) → i < j → m g (Index j) ≡ None) → i ≡ last_index v
shown_last v m g i same some none =
    let stands = last_stands v i (λ h. some (same i ∙ h)) in
    elim (cases_lt i (last_index v)) [
      | inr all ↦ omega (arith, all, stands.1)
      | inl less ↦ absurd (none_last v (omega (arith, less, stands.0)) (sym (same (last_index v)) ∙ none (last_index v) less))
    ]

both_false : (a b : Bool) → a ≡ false → (a && b) ≡ false
both_false a b h = rw h refl

second_false : (a b : Bool) → b ≡ false → (a && b) ≡ false
second_false true b h = h
second_false false b h = refl

-- a run from an index up to the one behind the last leaves no hole
no_hole : (t : Shown) (v : State) (m : LogMap) (g index : ℕ) → ((j : ℕ) → m g (Index j) ≡ entry_content v j) → IsLastIn m g (last_of t)
    → index ≤ last_index v + 1 → is_past (span t) index ≡ false
no_hole t v m g index same last within = elim (cases_Bool (nat_lt 0 (length t.places))) [
  | inr empty ↦
      both_false (nat_lt t.first (t.first + length t.places)) (nat_lt (t.first + length t.places) index)
      (lt_false t.first (t.first + length t.places) (none_there (length t.places) empty))
  | inl some ↦
      let is : last_of t ≡ Some (t.first + (length t.places - 1)) = if_true (nat_lt 0 (length t.places)) (Some (t.first + (length t.places - 1))) None some in
      let known : IsLastIn m g (Some (t.first + (length t.places - 1))) = subst (λ (o : Option ℕ). IsLastIn m g o) is last in
      let at = shown_last v m g (t.first + (length t.places - 1)) same known.0 known.1 in
      second_false (nat_lt t.first (t.first + length t.places)) (nat_lt (t.first + length t.places) index)
      (lt_false (t.first + length t.places) index (behind (length t.places) some at))
]
  where
    none_there : (n : ℕ) → nat_lt 0 n ≡ false → t.first + n ≤ t.first
    none_there n h = grind (arith, nat_tests)

    behind : (n : ℕ) → nat_lt 0 n ≡ true → t.first + (n - 1) ≡ last_index v → index ≤ t.first + n
    behind n h at = let some : 0 < n = grind (arith, nat_tests) in omega (arith, some, at, within)

-- Changes.

half_of_all : 2 ^ 63 ≤ top
unfolding top
half_of_all = omega arith

put_follows : (w : Window) (c : Change) (q : Request) → MayAllFollow w (put_unless q c.state)
put_follows w c q = elim (cases_Bool (is_retire q)) [
  | inl is ↦ subst (λ (l : List Words). MayAllFollow w l) (sym (if_true (is_retire q) [] (put_of c.state) is)) tt
  | inr kept ↦ subst (λ (l : List Words). MayAllFollow w l) (sym (if_false (is_retire q) [] (put_of c.state) kept)) ((tt, tt), tt)
]

run_follows : (w : Window) (index : ℕ) (es : List Pair) (rest : List Words) → is_past w index ≡ false → index + length es ≤ 2 ^ 63 → 0 < length es
    → ((u : Window) → MayAllFollow u rest) → MayAllFollow w (run_items index es ++ rest)
run_follows w index [] rest fits small some more = absurd (omega arith)
run_follows w index (e ∷ es) rest fits small some more =
    let size : length (map entry_text (numbered index (e ∷ es))) ≡ length (e ∷ es) = length-map (numbered index (e ∷ es)) entry_text ∙ length-numbered index (e ∷ es) in
    ((fits, omega (arith, size, small, half_of_all)), more _)

write_follows : (w : Window) (v : State) (q : Request) (c : Change) → IsChangeOf v q c → ((index : ℕ) → index ≤ last_index v + 1 → is_past w index ≡ false)
    → (k : Write) → CanWrite k q v → MayAllFollow w (write_items k (sent_of q) ++ put_unless q c.state)
write_follows w v q c h fits StateAlone can = put_follows w c q
write_follows w v q c h fits (Entries skipped index) can =
    let size : length (drop skipped (sent_of q)) ≡ length (sent_of q) - skipped = length-drop skipped (sent_of q) in
    run_follows w index (drop skipped (sent_of q)) (put_unless q c.state) (fits index can.1) (omega (arith, size, can.3)) (omega (arith, size, can.2)) (λ u. put_follows u c q)
write_follows w v q c h fits (CompactTo index) can = ((tt, tt), put_follows _ c q)
write_follows w v q c h fits CleanWrite can = ((tt, tt), put_follows _ c q)

own_follows : (t : Shown) (v : State) (m : LogMap) (g : ℕ) (q : Request) (c : Change) → ((j : ℕ) → m g (Index j) ≡ entry_content v j)
    → IsLastIn m g (last_of t) → IsChangeOf v q c → MayAllFollow (span t) (decided_items c q)
own_follows t v m g q c same last h =
    write_follows (span t) v q c h (λ index within. no_hole t v m g index same last within) c.write h.can

-- a change's record may follow in all groups
pub change_follows : (home : LogDirectories) (s : EngineState) (m : LogMap) (pending : List LogRecordValue) (W : World) (g : ℕ) (q : Request) (c : Change) (b : Batch)
    → Represents home s m pending → Means (taken m pending) W → IsChangeOf (W g) q c → SaysChange g q c b → MayFollowAll s.tables (tagged_items (λ e. e) b.items)
change_follows home s m pending W g q c b h means change says =
    follow_all_back (entry_bytes b.entries) s.tables (tagged_items (λ e. e) b.items)
    (subst (λ (l : List (Tagged (List ℕ) (List ℕ))). MayFollowAll s.tables l) (sym (items_renamed (entry_bytes b.entries) b.items ∙ says_items g q c b says)) each)
  where
    each : MayFollowAll s.tables (tagged_with g (decided_items c q))
    each k = elim (cases_Bool (g == k)) [
      | inl same ↦
          let is : g ≡ k = from_eq_true g k same in
          let told = tables_tell.last s g in
          let known = (shown (taken m pending g) (W g) (means g)).entries in
          let own = own_follows (s.tables g) (W g) (taken m pending) g q c known (told.exact home m pending h) change in
          subst (λ (j : ℕ). MayAllFollow (span (s.tables j)) (of_group j (tagged_with g (decided_items c q)))) is
          (subst (λ (l : List Words). MayAllFollow (span (s.tables g)) l) (sym (own_items g (decided_items c q))) own)
      | inr other ↦
          subst (λ (l : List Words). MayAllFollow (span (s.tables k)) l) (sym (other_items g k (decided_items c q) other)) tt
    ]
