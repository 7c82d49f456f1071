-- The invariant of a group is kept if Rewrite takes an item that the group's whereabouts allow. That item is
-- harmless from every start.
use Rattle.std.proofs.Common.{◌≡◌, ℕ, ◌+◌, ◌<◌, ◌≤◌, ◌⊎◌, true, false, if◌then◌else◌, bytes_eq, List, [], ◌∷◌, length, Option, Some, None, unwrap_or, refl, sym, ap, ◌∙◌, subst, inl, inr, arith}
use Rattle.std.proofs.lemmas.Bool.{cases_lt}
use Rattle.std.specs.Option.{option_or}
use Rattle.raft_log_model_laws.specs.Item.{Item}
use Rattle.raft_log_model_laws.specs.Item.Item.{Run, Clean, Compact, Put, Del}
use Rattle.raft_log_model_laws.specs.Meaning.{Slot, Content, write, says}
use Rattle.raft_log_model_laws.specs.Meaning.Slot.{Index, Key}
use Rattle.raft_log_model_laws.specs.Meaning.Content.{Value}
use Rattle.raft_log_model_laws.proofs.Public.{at_bool, compact_leaves, compact_removes, from_same_key, run_leaves, run_sets, run_truncates}
use Rattle.raft_log_machine_laws.specs.Survival.{IsSpoken, IsHarmless}
use Rattle.raft_log_machine_laws.specs.Whereabouts.{Whereabouts, top, with_key, RunStands, Carries, CarriesAll, NothingRewritten}
use Rattle.raft_log_machine_laws.specs.Truth.{SaysOfSlot, AreCorrect, IsRightInRewrite, IsSettledKey}
use Rattle.raft_log_machine_laws.proofs.Words.{option_or_assoc}
use Rattle.raft_log_machine_laws.proofs.TruthGrows.{true_along}

-- what is said once Rewrite took the item
abbrev pub rewrite_said : {E V : Type 0} → SaysOfSlot E V → Item E V → SaysOfSlot E V
rewrite_said said x = record { lowest = λ s. option_or (write s x) (said.lowest s); rewrite = λ s. option_or (write s x) (said.rewrite s); append = said.append }

word_right : {C : Type 0} (w older : Option (Option C)) (v c : Option C) → w ≡ Some v → v ≡ c → unwrap_or (option_or w older) None ≡ c
word_right w older v c e f = ap (λ w. unwrap_or (option_or w older) None) e ∙ f

right_now : {E V : Type 0} (said : SaysOfSlot E V) (m : Slot → Option (Content E V)) (x : Item E V) (s : Slot) (v : Option (Content E V))
    → write s x ≡ Some v → v ≡ m s → IsRightInRewrite (rewrite_said said x) m s
right_now said m x s v e f = (word_right (write s x) (said.lowest s) v (m s) e f, word_right (write s x) (said.rewrite s) v (m s) e f)

right_still : {E V : Type 0} (said : SaysOfSlot E V) (m : Slot → Option (Content E V)) (x : Item E V) (s : Slot)
    → write s x ≡ None → IsRightInRewrite said m s → IsRightInRewrite (rewrite_said said x) m s
right_still said m x s e h =
    (ap (λ w. unwrap_or (option_or w (said.lowest s)) None) e ∙ h.0, ap (λ w. unwrap_or (option_or w (said.rewrite s)) None) e ∙ h.1)

pub differ : {P : Type 0} → true ≡ false → P
differ e = absurd (let no_way : true ≡ false = e in let never : ⊥ = cc in never)

module _ {E V : Type 0} (said : SaysOfSlot E V) (m : Slot → Option (Content E V)) (t : Whereabouts) (b : AreCorrect said m t) where
  carries_run : (f : ℕ) (es : List E) → 0 < length es → t.first ≤ f → f ≤ t.split → t.split ≤ f + length es → f + length es ≤ t.end → RunStands m f es
      → (t.split ≡ f + length es) ⊎ ((t.cleaned ≡ false) × (t.compacted ≡ false)) → AreCorrect (rewrite_said said (Run f es)) m (record t { split = f + length es })
  carries_run f es some low within reaches fits same clean = record {
    in_order = (omega arith, fits, omega arith);
    below = b.below;
    above = b.above;
    solid = b.solid;
    rewritten = λ i from high. elim (cases_lt i f) [
      | inl before ↦ ap (λ w. option_or w (said.rewrite (Index i))) (run_leaves i f es before) ∙ b.rewritten i from (omega arith)
      | inr at ↦ ap (λ w. option_or w (said.rewrite (Index i))) (restated i at high)
    ];
    newer = λ i from some_appended. b.newer i (omega arith) (omega arith);
    key_newer = b.key_newer;
    key_older = b.key_older;
    after_clean = λ c. elim clean [
      | inl whole ↦ (let none : t.first ≡ t.split = (b.after_clean c).0 in omega arith, (b.after_clean c).1)
      | inr shut ↦ differ (sym c ∙ shut.0)
    ];
    after_delete = b.after_delete;
    index = λ i high. elim (cases_lt i f) [
      | inl before ↦ elim (b.index i high) [
        | inl right ↦ inl (right_still said m (Run f es) (Index i) (run_leaves i f es before) right)
        | inr (inl c) ↦ inr (inl c)
        | inr (inr (inl c)) ↦ inr (inr (inl (c.0, inl (below_first i before c.1))))
        | inr (inr (inr a)) ↦ absurd (omega arith)
      ]
      | inr at ↦ elim (cases_lt i (f + length es)) [
        | inl inside ↦ inl (right_now said m (Run f es) (Index i) (m (Index i)) (restated i at inside) refl)
        | inr past ↦ elim (cases_lt (f + length es) t.end) [
          | inl more ↦ inr (inr (inr (past, more)))
          | inr none ↦ inl (right_now said m (Run f es) (Index i) None (run_truncates i f es past some) (sym (b.above i (omega arith))))
        ]
      ]
    ];
    key = b.key;
  }
    where
      restated : (i : ℕ) → f ≤ i → i < f + length es → write (Index i) (Run f es) ≡ Some (m (Index i))
      restated i at inside = run_sets i f es at some ∙ ap Some (same i at inside)

      below_first : (i : ℕ) → i < f → (i < t.first) ⊎ (t.first ≡ t.split) → i < t.first
      below_first i before (inl h) = h
      below_first i before (inr none) = omega arith

  -- where a Clean may be carried, nothing of the group stands in Rewrite
  clean_allowed : (t.cleaned ≡ true) ⊎ NothingRewritten m t → NothingRewritten m t
  clean_allowed (inl c) = b.after_clean c
  clean_allowed (inr nothing) = nothing

  del_allowed : (l : List ℕ) → (t.deleted l ≡ true) ⊎ (t.appended l ≡ false → m (Key l) ≡ None) → t.appended l ≡ false → m (Key l) ≡ None
  del_allowed l (inl d) = b.after_delete l d
  del_allowed l (inr nothing) = nothing

  carries_clean : NothingRewritten m t → AreCorrect (rewrite_said said Clean) m (record t { cleaned = false })
  carries_clean nothing = record {
    in_order = b.in_order;
    below = b.below;
    above = b.above;
    solid = b.solid;
    rewritten = λ i from high. absurd (omega (arith, none));
    newer = b.newer;
    key_newer = b.key_newer;
    key_older = λ k e. inl (no_key k e);
    after_clean = λ h. differ (sym h);
    after_delete = b.after_delete;
    index = λ i high. elim (cases_lt i t.first) [
      | inl before ↦ inl (right_now said m Clean (Index i) None refl (sym (b.below i before)))
      | inr from ↦ elim (cases_lt t.split t.end) [
        | inl some ↦ inr (inr (inr (omega (arith, none), some)))
        | inr empty ↦ inl (right_now said m Clean (Index i) None refl (sym (b.above i (omega (arith, none)))))
      ]
    ];
    key = λ k. at_bool (t.appended k) (λ a. IsSettledKey (rewrite_said said Clean) m (record t { cleaned = false }) k)
        (λ e. inr (inr (inr e))) (λ e. inl (right_now said m Clean (Key k) None refl (sym (no_key k e))));
  }
    where
      none : t.first ≡ t.split
      none = nothing.0

      no_key : (k : List ℕ) → t.appended k ≡ false → m (Key k) ≡ None
      no_key = nothing.1

  carries_compact : (c : ℕ) → ((t.first < t.split) × (c ≡ t.first)) ⊎ ((t.first ≡ t.split) × (c ≡ top))
      → AreCorrect (rewrite_said said (Compact c)) m (record t { compacted = false })
  carries_compact c which = record {
    in_order = b.in_order;
    below = b.below;
    above = b.above;
    solid = b.solid;
    rewritten = λ i from high.
        ap (λ w. option_or w (said.rewrite (Index i))) (compact_leaves i c (reaches i from high)) ∙ b.rewritten i from high;
    newer = b.newer;
    key_newer = b.key_newer;
    key_older = b.key_older;
    after_clean = b.after_clean;
    after_delete = b.after_delete;
    index = λ i high. elim (cases_lt i c) [
      | inl low ↦ elim (cases_lt i t.first) [
        | inl before ↦ inl (right_now said m (Compact c) (Index i) None (compact_removes i c low) (sym (b.below i before)))
        | inr from ↦ elim (cases_lt t.split t.end) [
          | inl some ↦ inr (inr (inr (above_split i low from, some)))
          | inr nothing ↦ inl (right_now said m (Compact c) (Index i) None (compact_removes i c low) (sym (b.above i (past_all i low from nothing))))
        ]
      ]
      | inr from ↦ elim (b.index i high) [
        | inl right ↦ inl (right_still said m (Compact c) (Index i) (compact_leaves i c from) right)
        | inr (inl h) ↦ inr (inl h)
        | inr (inr (inl h)) ↦ absurd (not_owed i high from h.1)
        | inr (inr (inr a)) ↦ inr (inr (inr a))
      ]
    ];
    key = b.key;
  }
    where
      reaches : (i : ℕ) → t.first ≤ i → i < t.split → c ≤ i
      reaches i from high = elim which [ inl some ↦ omega arith | inr none ↦ absurd (omega arith) ]

      above_split : (i : ℕ) → i < c → t.first ≤ i → t.split ≤ i
      above_split i low from = elim which [ inl some ↦ absurd (omega arith) | inr none ↦ omega arith ]

      past_all : (i : ℕ) → i < c → t.first ≤ i → t.end ≤ t.split → t.end ≤ i
      past_all i low from nothing = elim which [ inl some ↦ absurd (omega arith) | inr none ↦ omega arith ]

      not_owed : (i : ℕ) → i < top → c ≤ i → (i < t.first) ⊎ (t.first ≡ t.split) → ⊥
      not_owed i high from h = elim which [ inl some ↦ elim h [ inl before ↦ omega arith | inr nothing ↦ omega arith ] | inr none ↦ omega arith ]

  carries_put : (l : List ℕ) (v : V) → m (Key l) ≡ Some (Value v) → (t.appended l ≡ true → (t.cleaned ≡ false) × (t.deleted l ≡ false))
      → AreCorrect (rewrite_said said (Put l v)) m (record t { appended = with_key t.appended l false })
  carries_put l v same clear = record {
    in_order = b.in_order;
    below = b.below;
    above = b.above;
    solid = b.solid;
    rewritten = b.rewritten;
    newer = b.newer;
    key_newer = λ k. at_bool (bytes_eq l k) (λ test. (if test then false else t.appended k) ≡ true → IsSpoken (said.append (Key k)))
        (λ e h. differ (sym h)) (λ e h. b.key_newer k h);
    key_older = λ k. at_bool (bytes_eq l k)
        (λ test. (if test then false else t.appended k) ≡ false
        → (m (Key k) ≡ None) ⊎ (option_or (if test then Some (Some (Value v)) else None) (said.rewrite (Key k)) ≡ Some (m (Key k))))
        (λ e h. inr (ap Some (sym (at_key k e)))) (λ e h. b.key_older k h);
    after_clean = λ c. (
      (b.after_clean c).0,
      λ k. at_bool (bytes_eq l k)
          (λ test. (if test then false else t.appended k) ≡ false → m (Key k) ≡ None)
          (λ e h. absurd (owes_no_clean c)) (λ e h. (b.after_clean c).1 k h),
    );
    after_delete = λ k. at_bool (bytes_eq l k)
        (λ test. t.deleted k ≡ true → (if test then false else t.appended k) ≡ false → m (Key k) ≡ None)
        (λ e d h. absurd (owes_no_del (ap t.deleted (from_same_key l k e) ∙ d))) (λ e d h. b.after_delete k d h);
    index = b.index;
    key = λ k. at_bool (bytes_eq l k)
        (λ test. ((unwrap_or (option_or (if test then Some (Some (Value v)) else None) (said.lowest (Key k))) None ≡ m (Key k))
        × (unwrap_or (option_or (if test then Some (Some (Value v)) else None) (said.rewrite (Key k))) None ≡ m (Key k)))
        ⊎ ((t.cleaned ≡ true) ⊎ ((t.deleted k ≡ true) ⊎ ((if test then false else t.appended k) ≡ true))))
        (λ e. inl (sym (at_key k e), sym (at_key k e))) (λ e. b.key k);
  }
    where
      at_key : (k : List ℕ) → bytes_eq l k ≡ true → m (Key k) ≡ Some (Value v)
      at_key k e = ap (λ j. m (Key j)) (sym (from_same_key l k e)) ∙ same

      not_none : m (Key l) ≡ None → ⊥
      not_none h = let clash : Some (Value v) ≡ None = sym same ∙ h in cc

      owes_no_clean : t.cleaned ≡ true → ⊥
      owes_no_clean c = at_bool (t.appended l) (λ a. ⊥) (λ e. differ (sym c ∙ (clear e).0)) (λ e. not_none ((b.after_clean c).1 l e))

      owes_no_del : t.deleted l ≡ true → ⊥
      owes_no_del d = at_bool (t.appended l) (λ a. ⊥) (λ e. differ (sym d ∙ (clear e).1)) (λ e. not_none (b.after_delete l d e))

  no_deleted : (l k : List ℕ) → (t.appended l ≡ false → m (Key l) ≡ None) → bytes_eq l k ≡ true → t.appended k ≡ false → m (Key k) ≡ None
  no_deleted l k nothing e h = subst (λ j. t.appended j ≡ false → m (Key j) ≡ None) (from_same_key l k e) nothing h

  carries_del : (l : List ℕ) → (t.appended l ≡ false → m (Key l) ≡ None) → AreCorrect (rewrite_said said (Del l)) m (record t { deleted = with_key t.deleted l false })
  carries_del l d = record {
    in_order = b.in_order;
    below = b.below;
    above = b.above;
    solid = b.solid;
    rewritten = b.rewritten;
    newer = b.newer;
    key_newer = b.key_newer;
    key_older = λ k h. at_bool (bytes_eq l k)
        (λ test. (m (Key k) ≡ None) ⊎ (option_or (if test then Some None else None) (said.rewrite (Key k)) ≡ Some (m (Key k))))
        (λ e. inl (no_deleted l k d e h)) (λ e. b.key_older k h);
    after_clean = b.after_clean;
    after_delete = λ k. at_bool (bytes_eq l k) (λ test. (if test then false else t.deleted k) ≡ true → t.appended k ≡ false → m (Key k) ≡ None)
        (λ e h a. differ (sym h)) (λ e h a. b.after_delete k h a);
    index = b.index;
    key = λ k. at_bool (bytes_eq l k)
        (λ test. ((unwrap_or (option_or (if test then Some None else None) (said.lowest (Key k))) None ≡ m (Key k))
        × (unwrap_or (option_or (if test then Some None else None) (said.rewrite (Key k))) None ≡ m (Key k)))
        ⊎ ((t.cleaned ≡ true) ⊎ (((if test then false else t.deleted k) ≡ true) ⊎ (t.appended k ≡ true))))
        (λ e. at_bool (t.appended k) (λ a. ((None ≡ m (Key k)) × (None ≡ m (Key k))) ⊎ ((t.cleaned ≡ true) ⊎ ((false ≡ true) ⊎ (t.appended k ≡ true))))
        (λ a. inr (inr (inr a))) (λ a. inl (sym (no_deleted l k d e a), sym (no_deleted l k d e a))))
        (λ e. b.key k);
  }

  said_nothing : (f : ℕ) → AreCorrect (rewrite_said said (Run f [])) m t
  said_nothing f = record {
    in_order = b.in_order;
    below = b.below;
    above = b.above;
    solid = b.solid;
    rewritten = b.rewritten;
    newer = b.newer;
    key_newer = b.key_newer;
    key_older = b.key_older;
    after_clean = b.after_clean;
    after_delete = b.after_delete;
    index = b.index;
    key = b.key;
  }

  pub carries : (x : Item E V) (u : Whereabouts) → Carries m t x u → AreCorrect (rewrite_said said x) m u
  carries (Run f []) u e = subst (λ v. AreCorrect (rewrite_said said (Run f [])) m v) (sym e) (said_nothing f)
  carries (Run f (e ∷ es)) u h =
      subst (λ v. AreCorrect (rewrite_said said (Run f (e ∷ es))) m v) (sym h.6) (carries_run f (e ∷ es) (omega arith) h.0 h.1 h.2 h.3 h.4 h.5)
  carries Clean u h = subst (λ v. AreCorrect (rewrite_said said Clean) m v) (sym h.1) (carries_clean (clean_allowed h.0))
  carries (Compact c) u h = subst (λ v. AreCorrect (rewrite_said said (Compact c)) m v) (sym h.1) (carries_compact c h.0)
  carries (Put l v) u h = subst (λ w. AreCorrect (rewrite_said said (Put l v)) m w) (sym h.2) (carries_put l v h.0 h.1)
  carries (Del l) u h = subst (λ v. AreCorrect (rewrite_said said (Del l)) m v) (sym h.1) (carries_del l (del_allowed l h.0))

  -- an index at which the item says "empty", and the whereabouts say that nothing rewritten stands there
  emptied : (i : ℕ) (w : Option (Option (Content E V))) → w ≡ Some None → (i < t.first) ⊎ (t.split ≤ i) → IsHarmless w (m (Index i)) (said.append (Index i))
  emptied i w e (inl before) = inr (inl (e ∙ ap Some (sym (b.below i before))))
  emptied i w e (inr from) = elim (cases_lt t.split t.end)
      [ inl some ↦ inr (inr (b.newer i from some)) | inr none ↦ inr (inl (e ∙ ap Some (sym (b.above i (omega arith))))) ]

  key_emptied : (k : List ℕ) (w : Option (Option (Content E V))) → w ≡ Some None → (t.appended k ≡ false → m (Key k) ≡ None)
      → IsHarmless w (m (Key k)) (said.append (Key k))
  key_emptied k w e gone = at_bool (t.appended k) (λ a. IsHarmless w (m (Key k)) (said.append (Key k)))
      (λ a. inr (inr (b.key_newer k a))) (λ a. inr (inl (e ∙ ap Some (sym (gone a)))))

  run_harmless : (f : ℕ) (es : List E) → 0 < length es → t.split ≤ f + length es → RunStands m f es → (i : ℕ)
      → IsHarmless (write (Index i) (Run f es)) (m (Index i)) (said.append (Index i))
  run_harmless f es some reaches same i = elim (cases_lt i f) [
    | inl before ↦ inl (run_leaves i f es before)
    | inr at ↦ elim (cases_lt i (f + length es)) [
      | inl inside ↦ inr (inl (run_sets i f es at some ∙ ap Some (same i at inside)))
      | inr past ↦ emptied i (write (Index i) (Run f es)) (run_truncates i f es past some) (inr (omega arith))
    ]
  ]

  compact_harmless : (c : ℕ) → ((t.first < t.split) × (c ≡ t.first)) ⊎ ((t.first ≡ t.split) × (c ≡ top)) → (i : ℕ)
      → IsHarmless (write (Index i) (Compact c)) (m (Index i)) (said.append (Index i))
  compact_harmless c which i = elim (cases_lt i c)
      [ inl low ↦ emptied i (write (Index i) (Compact c)) (compact_removes i c low) (where_it_is low) | inr from ↦ inl (compact_leaves i c from) ]
    where
      where_it_is : i < c → (i < t.first) ⊎ (t.split ≤ i)
      where_it_is low = elim which
          [ inl some ↦ inl (omega arith) | inr none ↦ elim (cases_lt i t.first) [ inl before ↦ inl before | inr from ↦ inr (omega arith) ] ]

  clean_harmless : NothingRewritten m t → (i : ℕ) → IsHarmless (Some None) (m (Index i)) (said.append (Index i))
  clean_harmless nothing i = emptied i (Some None) refl (elim (cases_lt i t.first) [ inl before ↦ inl before | inr from ↦ inr (omega (arith, none)) ])
    where
      none : t.first ≡ t.split
      none = nothing.0

  pub is_harmless : (x : Item E V) (u : Whereabouts) → Carries m t x u → (s : Slot) → IsHarmless (write s x) (m s) (said.append s)
  is_harmless (Run f []) u h (Index i) = inl refl
  is_harmless (Run f []) u h (Key k) = inl refl
  is_harmless (Run f (e ∷ es)) u h (Index i) = run_harmless f (e ∷ es) (omega arith) h.2 h.4 i
  is_harmless (Run f (e ∷ es)) u h (Key k) = inl refl
  is_harmless Clean u h (Index i) = clean_harmless (clean_allowed h.0) i
  is_harmless Clean u h (Key k) = key_emptied k (Some None) refl ((clean_allowed h.0).1 k)
  is_harmless (Compact c) u h (Index i) = compact_harmless c h.0 i
  is_harmless (Compact c) u h (Key k) = inl refl
  is_harmless (Put l v) u h (Index i) = inl refl
  is_harmless (Put l v) u h (Key k) = at_bool (bytes_eq l k)
      (λ test. IsHarmless (if test then Some (Some (Value v)) else None) (m (Key k)) (said.append (Key k)))
      (λ e. inr (inl (ap Some (sym (ap (λ j. m (Key j)) (sym (from_same_key l k e)) ∙ h.0))))) (λ e. inl refl)
  is_harmless (Del l) u h (Index i) = inl refl
  is_harmless (Del l) u h (Key k) = at_bool (bytes_eq l k) (λ test. IsHarmless (if test then Some None else None) (m (Key k)) (said.append (Key k)))
      (λ e. key_emptied k (Some None) refl (no_deleted l k (del_allowed l h.0) e)) (λ e. inl refl)

-- what is said once Rewrite took the items
abbrev pub rewrite_said_all : {E V : Type 0} → SaysOfSlot E V → List (Item E V) → SaysOfSlot E V
rewrite_said_all said xs =
    record { lowest = λ s. option_or (says s xs) (said.lowest s); rewrite = λ s. option_or (says s xs) (said.rewrite s); append = said.append }

pub carries_all : {E V : Type 0} (said : SaysOfSlot E V) (m : Slot → Option (Content E V)) (t : Whereabouts) (xs : List (Item E V)) (u : Whereabouts) → CarriesAll m t xs u
    → AreCorrect said m t → AreCorrect (rewrite_said_all said xs) m u
carries_all said m t [] u e b = subst (λ v. AreCorrect (rewrite_said_all said []) m v) (sym e) b
carries_all said m t (x ∷ xs) u h b =
    true_along (rewrite_said_all (rewrite_said said x) xs) (rewrite_said_all said (x ∷ xs)) m m u
    (λ s. sym (option_or_assoc (says s xs) (write s x) (said.lowest s))) (λ s. sym (option_or_assoc (says s xs) (write s x) (said.rewrite s)))
    (λ s. refl) (λ s. refl) (carries_all (rewrite_said said x) m h.0 xs u h.2 (carries said m t b x h.0 h.1))

both_harmless : {C : Type 0} (older newer : Option (Option C)) (v : Option C) (a : Option (Option C)) → IsHarmless older v a → IsHarmless newer v a
    → IsHarmless (option_or newer older) v a
both_harmless older None v a h k = h
both_harmless older (Some x) v a h (inl e) = inl e
both_harmless older (Some x) v a h (inr k) = inr k

pub all_harmless : {E V : Type 0} (said : SaysOfSlot E V) (m : Slot → Option (Content E V)) (t : Whereabouts) (xs : List (Item E V)) (u : Whereabouts) → CarriesAll m t xs u
    → AreCorrect said m t → (s : Slot) → IsHarmless (says s xs) (m s) (said.append s)
all_harmless said m t [] u h b s = inl refl
all_harmless said m t (x ∷ xs) u h b s =
    both_harmless (write s x) (says s xs) (m s) (said.append s) (is_harmless said m t b x h.0 h.1 s)
    (all_harmless (rewrite_said said x) m h.0 xs u h.2 (carries said m t b x h.0 h.1) s)
