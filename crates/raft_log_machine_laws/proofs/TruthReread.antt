-- The invariant of a group holds afresh for the whereabouts that an open makes.
use Rattle.std.proofs.Common.{◌≡◌, ℕ, ◌-◌, ◌<◌, ◌≤◌, ◌⊎◌, true, false, ◌||◌, if◌then◌else◌, bytes_eq, List, [], ◌∷◌, Option, Some, None, option_map, slice_get, unwrap_or, refl, sym, ap, ◌∙◌, inl, inr, arith, le_refl}
use Rattle.std.proofs.lemmas.Bool.{cases_lt}
use Rattle.std.specs.Option.{option_or}
use Rattle.raft_log_model_laws.specs.Item.{Item}
use Rattle.raft_log_model_laws.specs.Item.Item.{Run, Clean, Compact, Put, Del}
use Rattle.raft_log_model_laws.specs.Meaning.{Slot, Content, write, says}
use Rattle.raft_log_model_laws.specs.Meaning.Slot.{Index, Key}
use Rattle.raft_log_model_laws.specs.Meaning.Content.{Entry, Value}
use Rattle.raft_log_model_laws.specs.Holes.{has_clean}
use Rattle.raft_log_model_laws.proofs.Public.{at_bool, at_option, compact_leaves, compact_removes, run_leaves, run_sets}
use Rattle.raft_log_machine_laws.specs.Survival.{IsSpoken}
use Rattle.raft_log_machine_laws.specs.Whereabouts.{Whereabouts}
use Rattle.raft_log_machine_laws.specs.Truth.{SaysOfSlot, AreCorrect, IsRightInRewrite, IsSettledIndex, IsSettledKey}
use Rattle.raft_log_machine_laws.specs.Recovery.{has_compact, has_del, IsRecovered}
use Rattle.raft_log_machine_laws.proofs.Words.{option_or_none}
use Rattle.raft_log_machine_laws.proofs.Starts.{spoken_newer}
use Rattle.raft_log_machine_laws.proofs.TruthGrows.{spoken_after}
use Rattle.raft_log_machine_laws.proofs.TruthCarries.{differ}
use Rattle.raft_log_machine_laws.proofs.TruthRaises.{no_word, speaks_above}

-- from the index a on only runs speak, and they start there or above
abbrev IsCalm : {E V : Type 0} → ℕ → Item E V → Type 0
IsCalm a (Run f []) = Unit {0}
IsCalm a (Run f (e ∷ es)) = a ≤ f
IsCalm a Clean = ⊥
IsCalm a (Compact c) = c ≤ a
IsCalm a (Put l v) = Unit {0}
IsCalm a (Del l) = Unit {0}

abbrev AllCalm : {E V : Type 0} → ℕ → List (Item E V) → Type 0
AllCalm a [] = Unit {0}
AllCalm a (x ∷ xs) = IsCalm a x × AllCalm a xs

-- at an index no higher an entry stands
abbrev StandsUpTo : {E V : Type 0} → List (Item E V) → ℕ → Type 0
StandsUpTo {E} {V} xs i = (j : ℕ) × (j ≤ i) × ((c : Content E V) × (says (Index j) xs ≡ Some (Some c)))

module _ {E V : Type 0} where
  stands_still : (x : Item E V) (xs : List (Item E V)) (i : ℕ) → StandsUpTo xs i → StandsUpTo (x ∷ xs) i
  stands_still x xs i h = (h.0, h.1, (h.2.0, ap (λ w. option_or w (write (Index h.0) x)) h.2.1))

  -- where such items speak of an index, an entry stands at or below it
  one_item : (x : Item E V) (xs : List (Item E V)) (a i : ℕ) → IsCalm a x → a ≤ i
      → ((k : ℕ) → a ≤ k → IsSpoken (says (Index k) xs) → StandsUpTo xs k) → says (Index i) xs ≡ None → IsSpoken (write (Index i) x) → StandsUpTo (x ∷ xs) i
  one_item (Run f []) xs a i calm le below none spoken = no_word spoken.0 spoken.1
  one_item (Run f (e ∷ es)) xs a i calm le below none spoken = elim (cases_lt i f) [
    | inl low ↦ no_word spoken.0 (sym (run_leaves i f (e ∷ es) low) ∙ spoken.1)
    | inr from ↦ at_option (says (Index f) xs) (λ w. StandsUpTo (Run f (e ∷ es) ∷ xs) i)
        (λ quiet. (
          f,
          from,
          (
            Entry e,
            ap (λ w. option_or w (write (Index f) (Run f (e ∷ es)))) quiet ∙ run_sets f f (e ∷ es) (le_refl f) (omega arith)
                ∙ (let start : f - f ≡ 0 = omega arith in ap (λ d. Some (option_map Entry (slice_get (e ∷ es) d))) start),
          ),
        ))
        (λ w says_it. let low = below f calm (w, says_it) in stands_still (Run f (e ∷ es)) xs i (low.0, omega arith, low.2))
  ]
  one_item Clean xs a i calm le below none spoken = absurd calm
  one_item (Compact c) xs a i calm le below none spoken = no_word spoken.0 (sym (compact_leaves i c (omega arith)) ∙ spoken.1)
  one_item (Put l v) xs a i calm le below none spoken = no_word spoken.0 spoken.1
  one_item (Del l) xs a i calm le below none spoken = no_word spoken.0 spoken.1

  low_entry : (xs : List (Item E V)) (a : ℕ) → AllCalm a xs → (i : ℕ) → a ≤ i → IsSpoken (says (Index i) xs) → StandsUpTo xs i
  low_entry [] a calm i le spoken = no_word spoken.0 spoken.1
  low_entry (x ∷ xs) a calm i le spoken =
      at_option (says (Index i) xs) (λ w. IsSpoken (option_or w (write (Index i) x)) → StandsUpTo (x ∷ xs) i)
      (λ none h. one_item x xs a i calm.0 le (low_entry xs a calm.1) none h)
      (λ w says_it h. stands_still x xs i (low_entry xs a calm.1 i le (w, says_it)))
      spoken

  quiet_older : (x : Item E V) (xs : List (Item E V)) (s : Slot) → says s (x ∷ xs) ≡ None → (says s xs ≡ None) × (write s x ≡ None)
  quiet_older x xs s = at_option (says s xs) (λ w. option_or w (write s x) ≡ None → (w ≡ None) × (write s x ≡ None))
      (λ e h. (refl, h)) (λ w e h. no_word w (sym h))

  calm_item : (x : Item E V) (a : ℕ) → write (Index a) x ≡ None → IsCalm a x
  calm_item (Run f []) a h = tt
  calm_item (Run f (e ∷ es)) a h = elim (cases_lt a f)
      [ inl low ↦ omega arith | inr from ↦ no_word (option_map Entry (slice_get (e ∷ es) (a - f))) (sym h ∙ run_sets a f (e ∷ es) from (omega arith)) ]
  calm_item Clean a h = no_word None (sym h)
  calm_item (Compact c) a h = elim (cases_lt a c) [ inl low ↦ no_word None (sym h ∙ compact_removes a c low) | inr from ↦ from ]
  calm_item (Put l v) a h = tt
  calm_item (Del l) a h = tt

  -- items that don't speak of an index are calm from there on
  calm_above : (xs : List (Item E V)) (a : ℕ) → says (Index a) xs ≡ None → AllCalm a xs
  calm_above [] a h = tt
  calm_above (x ∷ xs) a h = let parts = quiet_older x xs (Index a) h in (calm_item x a parts.1, calm_above xs a parts.0)

  -- so are items with neither Clean nor Compact, from 0 on
  calm_unmarked : (xs : List (Item E V)) → has_clean xs ≡ false → has_compact xs ≡ false → AllCalm 0 xs
  calm_unmarked [] h k = tt
  calm_unmarked (Run f [] ∷ xs) h k = (tt, calm_unmarked xs h k)
  calm_unmarked (Run f (e ∷ es) ∷ xs) h k = (omega arith, calm_unmarked xs h k)
  calm_unmarked (Clean ∷ xs) h k = differ h
  calm_unmarked (Compact c ∷ xs) h k = differ k
  calm_unmarked (Put l v ∷ xs) h k = (tt, calm_unmarked xs h k)
  calm_unmarked (Del l ∷ xs) h k = (tt, calm_unmarked xs h k)

  clean_writes : (s : Slot) → ◌≡◌ {A = Option (Option (Content E V))} (write s Clean) (Some None)
  clean_writes (Index i) = refl
  clean_writes (Key k) = refl

  -- a Clean speaks of everything
  clean_speaks : (xs : List (Item E V)) (s : Slot) → has_clean xs ≡ true → IsSpoken (says s xs)
  clean_speaks [] s h = differ (sym h)
  clean_speaks (Run f es ∷ xs) s h = spoken_newer (says s xs) (write s (Run f es)) _ refl (clean_speaks xs s h)
  clean_speaks (Clean ∷ xs) s h = spoken_after (says s xs) (write s Clean) (None, clean_writes s)
  clean_speaks (Compact c ∷ xs) s h = spoken_newer (says s xs) (write s (Compact c)) _ refl (clean_speaks xs s h)
  clean_speaks (Put l v ∷ xs) s h = spoken_newer (says s xs) (write s (Put l v)) _ refl (clean_speaks xs s h)
  clean_speaks (Del l ∷ xs) s h = spoken_newer (says s xs) (write s (Del l)) _ refl (clean_speaks xs s h)

  -- a Del speaks of its key
  del_speaks : (xs : List (Item E V)) (k : List ℕ) → has_del k xs ≡ true → IsSpoken (says (Key k) xs)
  del_speaks [] k h = differ (sym h)
  del_speaks (Run f es ∷ xs) k h = spoken_newer (says (Key k) xs) None _ refl (del_speaks xs k h)
  del_speaks (Clean ∷ xs) k h = spoken_after (says (Key k) xs) (Some None) (None, refl)
  del_speaks (Compact c ∷ xs) k h = spoken_newer (says (Key k) xs) None _ refl (del_speaks xs k h)
  del_speaks (Put l v ∷ xs) k h = spoken_newer (says (Key k) xs) (write (Key k) (Put l v)) _ refl (del_speaks xs k h)
  del_speaks (Del l ∷ xs) k h =
      at_bool (bytes_eq l k) (λ b. (b || has_del k xs) ≡ true → IsSpoken (option_or (says (Key k) xs) (if b then Some None else None)))
      (λ e j. spoken_after (says (Key k) xs) (Some None) (None, refl)) (λ e j. spoken_newer (says (Key k) xs) None _ refl (del_speaks xs k j)) h

  -- where a key's last word is that nothing stands there, the items have a Clean or a Del of it
  emptied_key : (xs : List (Item E V)) (k : List ℕ) → says (Key k) xs ≡ Some None → (has_clean xs ≡ true) ⊎ (has_del k xs ≡ true)
  emptied_key [] k h = no_word None h
  emptied_key (Run f es ∷ xs) k h = emptied_key xs k (sym (option_or_none (says (Key k) xs)) ∙ h)
  emptied_key (Clean ∷ xs) k h = inl refl
  emptied_key (Compact c ∷ xs) k h = emptied_key xs k (sym (option_or_none (says (Key k) xs)) ∙ h)
  emptied_key (Put l v ∷ xs) k h =
      at_option (says (Key k) xs) (λ w. option_or w (write (Key k) (Put l v)) ≡ Some None → (has_clean xs ≡ true) ⊎ (has_del k xs ≡ true))
      (λ e j. at_bool (bytes_eq l k) (λ b. ◌≡◌ {A = Option (Option (Content E V))} (if b then Some (Some (Value v)) else None) (Some None) → (has_clean xs ≡ true) ⊎ (has_del k xs ≡ true))
      (λ f i. absurd (some_value i)) (λ f i. no_word None i) j)
      (λ w e j. emptied_key xs k (e ∙ j)) h
    where
      some_value : ◌≡◌ {A = Option (Option (Content E V))} (Some (Some (Value v))) (Some None) → ⊥
      some_value e = cc
  emptied_key (Del l ∷ xs) k h =
      at_bool (bytes_eq l k) (λ b. option_or (says (Key k) xs) (if b then Some None else None) ≡ Some None → (has_clean xs ≡ true) ⊎ ((b || has_del k xs) ≡ true))
      (λ e j. inr refl) (λ e j. emptied_key xs k (sym (option_or_none (says (Key k) xs)) ∙ j)) h

module _ {E V : Type 0} (said : SaysOfSlot E V) (m : Slot → Option (Content E V)) (t : Whereabouts) (append : List (Item E V)) (r : IsRecovered m append t)
    (lowest_means : (s : Slot) → unwrap_or (says s append) (unwrap_or (said.lowest s) None) ≡ m s)
    (means : (s : Slot) → unwrap_or (says s append) (unwrap_or (said.rewrite s) None) ≡ m s)
    (append_is : (s : Slot) → said.append s ≡ says s append) where
  -- where Append is silent, Rewrite is right
  right_if_quiet : (s : Slot) → says s append ≡ None → IsRightInRewrite said m s
  right_if_quiet s e =
      (sym (ap (λ w. unwrap_or w (unwrap_or (said.lowest s) None)) e) ∙ lowest_means s, sym (ap (λ w. unwrap_or w (unwrap_or (said.rewrite s) None)) e) ∙ means s)

  spoken : (s : Slot) → IsSpoken (says s append) → IsSpoken (said.append s)
  spoken s h = (h.0, append_is s ∙ h.1)

  -- a content of Rewrite where Append is silent is Rewrite's word
  its_word : (s : Slot) (w : Option (Option (Content E V))) (c : Content E V) → unwrap_or w None ≡ Some c → w ≡ Some (Some c)
  its_word s None c e = no_word c e
  its_word s (Some v) c e = ap Some e

  word_is : (s : Slot) → says s append ≡ None → (c : Content E V) → m s ≡ Some c → said.rewrite s ≡ Some (m s)
  word_is s quiet c e = its_word s (said.rewrite s) c ((right_if_quiet s quiet).1 ∙ e) ∙ ap Some (sym e)

  -- an entry of Append stands in the appended part of the whereabouts
  is_appended : (j : ℕ) (c : Content E V) → says (Index j) append ≡ Some (Some c) → (t.split ≤ j) × (j < t.end)
  is_appended j c e = (not_below (cases_lt j t.split), not_past (cases_lt j t.end))
    where
      stands : m (Index j) ≡ Some c
      stands = sym (means (Index j)) ∙ ap (λ w. unwrap_or w (unwrap_or (said.rewrite (Index j)) None)) e

      not_past : (j < t.end) ⊎ (t.end ≤ j) → j < t.end
      not_past (inl h) = h
      not_past (inr h) = no_word c (sym (r.above j h) ∙ stands)

      not_below : (j < t.split) ⊎ (t.split ≤ j) → t.split ≤ j
      not_below (inr h) = h
      not_below (inl h) = elim (cases_lt j t.first)
          [ inl before ↦ no_word c (sym (r.below j before) ∙ stands) | inr from ↦ no_word (Some c) (sym (r.rewritten j from h).0 ∙ e) ]

  overruled : (i : ℕ) → StandsUpTo append i → (t.split ≤ i) × (t.split < t.end)
  overruled i h = let place = is_appended h.0 h.2.0 h.2.1 in (omega arith, omega arith)

  settled_index : (i : ℕ) → IsSettledIndex said m t i
  settled_index i = at_option (says (Index i) append) (λ w. IsSettledIndex said m t i) (λ e. inl (right_if_quiet (Index i) e)) (λ w e. loud (w, e))
    where
      unmarked : IsSpoken (says (Index i) append) → has_clean append ≡ false → (i < t.first) ⊎ (t.first ≡ t.split) → IsSettledIndex said m t i
      unmarked h no_clean place = at_bool (has_compact append) (λ b. IsSettledIndex said m t i)
          (λ c. inr (inr (inl (r.marks.compacted no_clean c, place))))
          (λ c. inr (inr (inr (overruled i (low_entry append 0 (calm_unmarked append no_clean c) i (omega arith) h)))))

      loud : IsSpoken (says (Index i) append) → IsSettledIndex said m t i
      loud h = at_bool (has_clean append) (λ b. IsSettledIndex said m t i)
          (λ c. inr (inl (r.marks.cleaned ∙ c)))
          (λ c. elim (cases_lt i t.first) [
            | inl before ↦ unmarked h c (inl before)
            | inr from ↦ elim (cases_lt t.first t.split) [
              | inl some ↦ inr (inr (inr (overruled i
                  (low_entry append t.first (calm_above append t.first (r.rewritten t.first (le_refl t.first) some).0) i from h))))
              | inr none ↦ unmarked h c (inr (let order = r.in_order in omega arith))
            ]
          ])

  settled_key : (k : List ℕ) → IsSettledKey said m t k
  settled_key k = at_bool (t.appended k) (λ a. IsSettledKey said m t k) (λ a. inr (inr (inr a))) (λ a. elim (r.key_older k a) [
    | inr quiet ↦ inl (right_if_quiet (Key k) quiet)
    | inl nothing ↦ at_option (says (Key k) append) (λ w. IsSettledKey said m t k) (λ e. inl (right_if_quiet (Key k) e))
        (λ w e. elim (emptied_key append k (e ∙ ap Some (sym (ap (λ w. unwrap_or w (unwrap_or (said.rewrite (Key k)) None)) e) ∙ means (Key k) ∙ nothing)))
        [ inl c ↦ inr (inl (r.marks.cleaned ∙ c)) | inr d ↦ at_bool (has_clean append) (λ b. IsSettledKey said m t k) (λ c. inr (inl (r.marks.cleaned ∙ c))) (λ c. inr (inr (inl (r.marks.deleted k c d)))) ])
  ])

  quiet_clash : (s : Slot) → IsSpoken (says s append) → says s append ≡ None → ⊥
  quiet_clash s h e = no_word h.0 (sym e ∙ h.1)

  pub recovered_truth : AreCorrect said m t
  recovered_truth = record {
    in_order = r.in_order;
    below = r.below;
    above = r.above;
    solid = λ i from high. elim (cases_lt i t.split) [
      | inl within ↦ (r.rewritten i from within).1
      | inr appended ↦ (let it = r.newer i appended high in (it.0, sym (means (Index i)) ∙ ap (λ w. unwrap_or w (unwrap_or (said.rewrite (Index i)) None)) it.1))
    ];
    rewritten = λ i from high. let it = r.rewritten i from high in word_is (Index i) it.0 it.1.0 it.1.1;
    newer = λ i from some. spoken (Index i) (let it = r.newer t.split (le_refl t.split) some in speaks_above append t.split i it.0 from it.1);
    key_newer = λ k a. let it = r.key_newer k a in spoken (Key k) (Some it.0, it.1);
    key_older = λ k a. elim (r.key_older k a) [
      | inl nothing ↦ inl nothing
      | inr quiet ↦ at_option (m (Key k)) (λ c. (m (Key k) ≡ None) ⊎ (said.rewrite (Key k) ≡ Some (m (Key k))))
          (λ e. inl e) (λ c e. inr (word_is (Key k) quiet c e))
    ];
    after_clean = λ c. (
      no_entries c,
      λ k a. elim (r.key_older k a)
          [ inl nothing ↦ nothing | inr quiet ↦ absurd (quiet_clash (Key k) (clean_speaks append (Key k) (sym r.marks.cleaned ∙ c)) quiet) ],
    );
    after_delete = λ k d a. elim (r.key_older k a)
        [ inl nothing ↦ nothing | inr quiet ↦ absurd (quiet_clash (Key k) (del_speaks append k (r.marks.was_deleted k d)) quiet) ];
    index = λ i high. settled_index i;
    key = settled_key;
  }
    where
      no_entries : t.cleaned ≡ true → t.first ≡ t.split
      no_entries c = elim (cases_lt t.first t.split) [
        | inl some ↦ absurd (quiet_clash (Index t.first) (clean_speaks append (Index t.first) (sym r.marks.cleaned ∙ c)) (r.rewritten t.first (le_refl t.first) some).0)
        | inr none ↦ (let order = r.in_order in omega arith)
      ]
