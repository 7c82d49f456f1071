-- The invariant of a group is kept where Append takes an item.
use Rattle.std.proofs.Common.{◌≡◌, ℕ, ◌+◌, ◌<◌, ◌≤◌, ◌⊎◌, min, max, Bool, true, false, if◌then◌else◌, bytes_eq, List, [], ◌∷◌, length, Option, Some, None, unwrap_or, refl, sym, ap, ◌∙◌, subst, inl, inr, arith}
use Rattle.std.proofs.lemmas.Bool.{cases_lt}
use Rattle.std.specs.Option.{option_or}
use mathlib.Core.Path.{fun_ext}
use Rattle.raft_log_model_laws.specs.Item.{Item}
use Rattle.raft_log_model_laws.specs.Item.Item.{Run, Clean, Compact, Put, Del}
use Rattle.raft_log_model_laws.specs.Meaning.{Slot, Content, write, says, after}
use Rattle.raft_log_model_laws.specs.Meaning.Slot.{Index, Key}
use Rattle.raft_log_model_laws.specs.Meaning.Content.{Entry, Value}
use Rattle.raft_log_model_laws.proofs.Public.{at_bool, compact_leaves, compact_removes, inside, run_leaves, run_sets, run_truncates}
use Rattle.raft_log_machine_laws.specs.Survival.{IsSpoken}
use Rattle.raft_log_machine_laws.specs.Whereabouts.{Whereabouts, top, with_key, Alone, GoesOn, compacted_first, AppendTakes, GrowsBy}
use Rattle.raft_log_machine_laws.proofs.Words.{option_or_assoc, unwrap_or_option_or}
use Rattle.raft_log_machine_laws.specs.Truth.{SaysOfSlot, AreCorrect, IsRightInRewrite}

pub spoken_after : {C : Type 0} (newer older : Option (Option C)) → IsSpoken older → IsSpoken (option_or newer older)
spoken_after None older h = h
spoken_after (Some x) older h = (x, refl)

pub spoken_now : {C : Type 0} (newer older : Option (Option C)) (v : Option C) → newer ≡ Some v → IsSpoken (option_or newer older)
spoken_now newer older v e = (v, ap (λ w. option_or w older) e)

-- what the item says of the slot is None, so its content stays
pub stays : {E V : Type 0} (m : Slot → Option (Content E V)) (s : Slot) (w : Option (Option (Content E V))) → w ≡ None → unwrap_or w (m s) ≡ m s
stays m s w e = ap (λ w. unwrap_or w (m s)) e

pub becomes : {E V : Type 0} (m : Slot → Option (Content E V)) (s : Slot) (w : Option (Option (Content E V))) (v : Option (Content E V))
    → w ≡ Some v → unwrap_or w (m s) ≡ v
becomes m s w v e = ap (λ w. unwrap_or w (m s)) e

-- what is said once Append took the item
abbrev pub append_said : {E V : Type 0} → SaysOfSlot E V → Item E V → SaysOfSlot E V
append_said said x = record { lowest = said.lowest; rewrite = said.rewrite; append = λ s. option_or (write s x) (said.append s) }

abbrev pub stepped : {E V : Type 0} → (Slot → Option (Content E V)) → Item E V → Slot → Option (Content E V)
stepped m x s = unwrap_or (write s x) (m s)

pub right_along : {E V : Type 0} (said : SaysOfSlot E V) (m n : Slot → Option (Content E V)) (s : Slot) → n s ≡ m s → IsRightInRewrite said m s → IsRightInRewrite said n s
right_along said m n s e h = (h.0 ∙ sym e, h.1 ∙ sym e)

module _ {E V : Type 0} (said : SaysOfSlot E V) (m : Slot → Option (Content E V)) (t : Whereabouts) (b : AreCorrect said m t) where
  -- inside a run its entry stands
  entry_of_run : (f : ℕ) (es : List E) → 0 < length es → (i : ℕ) → f ≤ i → i < f + length es
      → (entry : Content E V) × (stepped m (Run f es) (Index i) ≡ Some entry)
  entry_of_run f es some i low high =
      let it = inside i f es low high in (Entry it.0, becomes m (Index i) _ _ (run_sets i f es low some) ∙ it.1)

  grows_alone : (f : ℕ) (es : List E) → 0 < length es → f + length es ≤ top → Alone t f
      → AreCorrect (append_said said (Run f es)) (stepped m (Run f es)) (record t { first = f; split = f; end = f + length es })
  grows_alone f es some fits alone = record {
    in_order = (omega arith, omega arith, fits);
    below = λ i h. stays m (Index i) _ (run_leaves i f es h) ∙ empty_below i h;
    above = λ i h. becomes m (Index i) _ None (run_truncates i f es h some);
    solid = λ i low high. entry_of_run f es some i low high;
    rewritten = λ i low high. absurd (omega arith);
    newer = λ i low some_appended. spoken_now _ (said.append (Index i)) _ (run_sets i f es low some);
    key_newer = b.key_newer;
    key_older = b.key_older;
    after_clean = λ c. (refl, (b.after_clean c).1);
    after_delete = b.after_delete;
    index = λ i high. elim (cases_lt i f) [
      | inl low ↦ elim (b.index i high) [
        | inl right ↦ inl (right_along said m (stepped m (Run f es)) (Index i) (stays m (Index i) _ (run_leaves i f es low)) right)
        | inr (inl c) ↦ inr (inl c)
        | inr (inr (inl c)) ↦ inr (inr (inl (c.0, inl low)))
        | inr (inr (inr a)) ↦ absurd (not_appended i low a.0 a.1)
      ]
      | inr from ↦ inr (inr (inr (from, omega arith)))
    ];
    key = b.key;
  }
    where
      empty_below : (i : ℕ) → i < f → m (Index i) ≡ None
      empty_below i h = elim (cases_lt i t.first) [ inl low ↦ b.below i low | inr from ↦ elim alone [ inl first ↦ absurd (omega arith) | inr none ↦ b.above i (omega arith) ] ]

      not_appended : (i : ℕ) → i < f → t.split ≤ i → t.split < t.end → ⊥
      not_appended i low from some_appended = elim alone [ inl first ↦ omega arith | inr none ↦ omega arith ]

  grows_on : (f : ℕ) (es : List E) → 0 < length es → f + length es ≤ top → GoesOn t f
      → AreCorrect (append_said said (Run f es)) (stepped m (Run f es)) (record t { split = min t.split f; end = f + length es })
  grows_on f es some fits on = record {
    in_order = (omega arith, omega arith, fits);
    below = λ i h. stays m (Index i) _ (run_leaves i f es (omega arith)) ∙ b.below i h;
    above = λ i h. becomes m (Index i) _ None (run_truncates i f es h some);
    solid = λ i low high. elim (cases_lt i f) [
      | inl below ↦ (let old = b.solid i low (omega arith) in (old.0, stays m (Index i) _ (run_leaves i f es below) ∙ old.1))
      | inr from ↦ entry_of_run f es some i from high
    ];
    rewritten = λ i low high. b.rewritten i low (omega arith) ∙ ap Some (sym (stays m (Index i) _ (run_leaves i f es (omega arith))));
    newer = λ i low some_appended. elim (cases_lt i f) [
      | inl below ↦ spoken_after (write (Index i) (Run f es)) (said.append (Index i)) (b.newer i (omega arith) (omega arith))
      | inr from ↦ spoken_now _ (said.append (Index i)) _ (run_sets i f es from some)
    ];
    key_newer = b.key_newer;
    key_older = b.key_older;
    after_clean = λ c. (let none : t.first ≡ t.split = (b.after_clean c).0 in omega arith, (b.after_clean c).1);
    after_delete = b.after_delete;
    index = λ i high. elim (cases_lt i f) [
      | inl low ↦ elim (b.index i high) [
        | inl right ↦ inl (right_along said m (stepped m (Run f es)) (Index i) (stays m (Index i) _ (run_leaves i f es low)) right)
        | inr (inl c) ↦ inr (inl c)
        | inr (inr (inl c)) ↦ inr (inr (inl (c.0, elim c.1 [ inl below ↦ inl below | inr none ↦ inr (omega arith) ])))
        | inr (inr (inr a)) ↦ inr (inr (inr (omega arith, omega arith)))
      ]
      | inr from ↦ inr (inr (inr (omega arith, omega arith)))
    ];
    key = b.key;
  }

  grows_compact : (c : ℕ) → AreCorrect (append_said said (Compact c)) (stepped m (Compact c))
      (record t { first = compacted_first t c; split = max t.split (compacted_first t c); compacted = true })
  grows_compact c = record {
    in_order = (omega arith, omega arith, omega arith);
    below = λ i h. elim (cases_lt i c) [
      | inl low ↦ becomes m (Index i) _ None (compact_removes i c low)
      | inr from ↦ stays m (Index i) _ (compact_leaves i c from) ∙ b.below i (omega arith)
    ];
    above = λ i h. elim (cases_lt i c) [
      | inl low ↦ becomes m (Index i) _ None (compact_removes i c low)
      | inr from ↦ stays m (Index i) _ (compact_leaves i c from) ∙ b.above i h
    ];
    solid = λ i low high. let old = b.solid i (omega arith) high in (old.0, stays m (Index i) _ (compact_leaves i c (omega arith)) ∙ old.1);
    rewritten = λ i low high.
        b.rewritten i (omega arith) (omega arith) ∙ ap Some (sym (stays m (Index i) _ (compact_leaves i c (omega arith))));
    newer = λ i low some_appended. spoken_after (write (Index i) (Compact c)) (said.append (Index i)) (b.newer i (omega arith) (omega arith));
    key_newer = b.key_newer;
    key_older = b.key_older;
    after_clean = λ h. (let none : t.first ≡ t.split = (b.after_clean h).0 in omega arith, (b.after_clean h).1);
    after_delete = b.after_delete;
    index = λ i high. elim (cases_lt i c) [
      | inl low ↦ inr (inr (inl (refl, elim (cases_lt i t.end) [ inl within ↦ inl (omega arith) | inr past ↦ inr (omega arith) ])))
      | inr from ↦ elim (b.index i high) [
        | inl right ↦ inl (right_along said m (stepped m (Compact c)) (Index i) (stays m (Index i) _ (compact_leaves i c from)) right)
        | inr (inl h) ↦ inr (inl h)
        | inr (inr (inl h)) ↦ inr (inr (inl (refl, elim h.1 [ inl below ↦ inl (omega arith) | inr none ↦ inr (omega arith) ])))
        | inr (inr (inr a)) ↦ elim (cases_lt (max t.split (compacted_first t c)) t.end) [
          | inl some ↦ inr (inr (inr (omega arith, some)))
          | inr none ↦ inr (inr (inl (refl, inr (omega arith))))
        ]
      ]
    ];
    key = b.key;
  }

  grows_clean : (u : Whereabouts) → u.first ≡ u.end → u.split ≡ u.end → u.end ≤ top → ((k : List ℕ) → u.appended k ≡ false) → u.cleaned ≡ true
      → AreCorrect (append_said said Clean) (stepped m Clean) u
  grows_clean u none none_split fits no_key cleaned = record {
    in_order = (omega arith, omega arith, fits);
    below = λ i h. refl;
    above = λ i h. refl;
    solid = λ i low high. absurd (omega arith);
    rewritten = λ i low high. absurd (omega arith);
    newer = λ i low some_appended. (None, refl);
    key_newer = λ k h. (None, refl);
    key_older = λ k h. inl refl;
    after_clean = λ h. (omega arith, λ k e. refl);
    after_delete = λ k h e. refl;
    index = λ i high. inr (inl cleaned);
    key = λ k. inr (inl cleaned);
  }

  grows_put : (l : List ℕ) (v : V) → AreCorrect (append_said said (Put l v)) (stepped m (Put l v)) (record t { appended = with_key t.appended l true })
  grows_put l v = record {
    in_order = b.in_order;
    below = b.below;
    above = b.above;
    solid = b.solid;
    rewritten = b.rewritten;
    newer = b.newer;
    key_newer = λ k. at_bool (bytes_eq l k)
        (λ same. (if same then true else t.appended k) ≡ true → IsSpoken (option_or (if same then Some (Some (Value v)) else None) (said.append (Key k))))
        (λ e h. (Some (Value v), refl)) (λ e h. b.key_newer k h);
    key_older = λ k. at_bool (bytes_eq l k)
        (λ same. (if same then true else t.appended k) ≡ false
        → (unwrap_or (if same then Some (Some (Value v)) else None) (m (Key k)) ≡ None)
        ⊎ (said.rewrite (Key k) ≡ Some (unwrap_or (if same then Some (Some (Value v)) else None) (m (Key k)))))
        (λ e h. absurd (differ h)) (λ e h. b.key_older k h);
    after_clean = λ c. (
      (b.after_clean c).0,
      λ k. at_bool (bytes_eq l k)
          (λ same. (if same then true else t.appended k) ≡ false → unwrap_or (if same then Some (Some (Value v)) else None) (m (Key k)) ≡ None)
          (λ e h. absurd (differ h)) (λ e h. (b.after_clean c).1 k h),
    );
    after_delete = λ k. at_bool (bytes_eq l k)
        (λ same. t.deleted k ≡ true → (if same then true else t.appended k) ≡ false → unwrap_or (if same then Some (Some (Value v)) else None) (m (Key k)) ≡ None)
        (λ e d h. absurd (differ h)) (λ e d h. b.after_delete k d h);
    index = b.index;
    key = λ k. at_bool (bytes_eq l k)
        (λ same. ((unwrap_or (said.lowest (Key k)) None ≡ unwrap_or (if same then Some (Some (Value v)) else None) (m (Key k)))
        × (unwrap_or (said.rewrite (Key k)) None ≡ unwrap_or (if same then Some (Some (Value v)) else None) (m (Key k))))
        ⊎ ((t.cleaned ≡ true) ⊎ ((t.deleted k ≡ true) ⊎ ((if same then true else t.appended k) ≡ true))))
        (λ e. inr (inr (inr refl))) (λ e. b.key k);
  }
    where
      differ : true ≡ false → ⊥
      differ e = cc

  grows_del : (l : List ℕ) (changed : Bool) → (t.compacted ≡ true → changed ≡ true)
      → AreCorrect (append_said said (Del l)) (stepped m (Del l)) (record t { appended = with_key t.appended l false; compacted = changed; deleted = with_key t.deleted l true })
  grows_del l changed still = record {
    in_order = b.in_order;
    below = b.below;
    above = b.above;
    solid = b.solid;
    rewritten = b.rewritten;
    newer = b.newer;
    key_newer = λ k. at_bool (bytes_eq l k)
        (λ same. (if same then false else t.appended k) ≡ true → IsSpoken (option_or (if same then Some None else None) (said.append (Key k))))
        (λ e h. (None, refl)) (λ e h. b.key_newer k h);
    key_older = λ k. at_bool (bytes_eq l k)
        (λ same. (if same then false else t.appended k) ≡ false
        → (unwrap_or (if same then Some None else None) (m (Key k)) ≡ None) ⊎ (said.rewrite (Key k) ≡ Some (unwrap_or (if same then Some None else None) (m (Key k)))))
        (λ e h. inl refl) (λ e h. b.key_older k h);
    after_clean = λ c. (
      (b.after_clean c).0,
      λ k. at_bool (bytes_eq l k)
          (λ same. (if same then false else t.appended k) ≡ false → unwrap_or (if same then Some None else None) (m (Key k)) ≡ None)
          (λ e h. refl) (λ e h. (b.after_clean c).1 k h),
    );
    after_delete = λ k. at_bool (bytes_eq l k)
        (λ same. (if same then true else t.deleted k) ≡ true → (if same then false else t.appended k) ≡ false → unwrap_or (if same then Some None else None) (m (Key k)) ≡ None)
        (λ e d h. refl) (λ e d h. b.after_delete k d h);
    index = λ i high. elim (b.index i high) [
      | inl right ↦ inl right
      | inr (inl c) ↦ inr (inl c)
      | inr (inr (inl c)) ↦ inr (inr (inl (still c.0, c.1)))
      | inr (inr (inr a)) ↦ inr (inr (inr a))
    ];
    key = λ k. at_bool (bytes_eq l k)
        (λ same. ((unwrap_or (said.lowest (Key k)) None ≡ unwrap_or (if same then Some None else None) (m (Key k)))
        × (unwrap_or (said.rewrite (Key k)) None ≡ unwrap_or (if same then Some None else None) (m (Key k))))
        ⊎ ((t.cleaned ≡ true) ⊎ (((if same then true else t.deleted k) ≡ true) ⊎ ((if same then false else t.appended k) ≡ true))))
        (λ e. inr (inr (inl refl))) (λ e. b.key k);
  }

  pub grows : (x : Item E V) (u : Whereabouts) → AppendTakes t x u → AreCorrect (append_said said x) (stepped m x) u
  grows (Run f []) u e = subst (λ v. AreCorrect (append_said said (Run f [])) (stepped m (Run f [])) v) (sym e) nothing_said
    where
      nothing_said : AreCorrect (append_said said (Run f [])) (stepped m (Run f [])) t
      nothing_said = record {
        in_order = b.in_order;
        below = b.below;
        above = b.above;
        solid = b.solid;
        rewritten = b.rewritten;
        newer = b.newer;
        key_newer = b.key_newer;
        key_older = b.key_older;
        after_clean = b.after_clean;
        after_delete = b.after_delete;
        index = b.index;
        key = b.key;
      }
  grows (Run f (e ∷ es)) u h = elim h.1 [
    | inl alone ↦ subst (λ v. AreCorrect (append_said said (Run f (e ∷ es))) (stepped m (Run f (e ∷ es))) v) (sym alone.1)
        (grows_alone f (e ∷ es) (omega arith) h.0 alone.0)
    | inr on ↦ subst (λ v. AreCorrect (append_said said (Run f (e ∷ es))) (stepped m (Run f (e ∷ es))) v) (sym on.1) (grows_on f (e ∷ es) (omega arith) h.0 on.0)
  ]
  grows Clean u h = grows_clean u h.0 h.1 h.2 h.3 h.4
  grows (Compact c) u e = subst (λ v. AreCorrect (append_said said (Compact c)) (stepped m (Compact c)) v) (sym e) (grows_compact c)
  grows (Put l v) u e = subst (λ w. AreCorrect (append_said said (Put l v)) (stepped m (Put l v)) w) (sym e) (grows_put l v)
  grows (Del l) u h = subst (λ v. AreCorrect (append_said said (Del l)) (stepped m (Del l)) v) (sym h.2) (grows_del l h.0 h.1)

-- equal words, slot by slot, are one record of words
pub same_said : {E V : Type 0} (a b : SaysOfSlot E V) → ((s : Slot) → a.lowest s ≡ b.lowest s) → ((s : Slot) → a.rewrite s ≡ b.rewrite s)
    → ((s : Slot) → a.append s ≡ b.append s) → a ≡ b
same_said a b p q r = λ i. record { lowest = λ s. p s i; rewrite = λ s. q s i; append = λ s. r s i }

pub true_along : {E V : Type 0} (a b : SaysOfSlot E V) (m n : Slot → Option (Content E V)) (t : Whereabouts) → ((s : Slot) → a.lowest s ≡ b.lowest s)
    → ((s : Slot) → a.rewrite s ≡ b.rewrite s) → ((s : Slot) → a.append s ≡ b.append s) → ((s : Slot) → m s ≡ n s) → AreCorrect a m t → AreCorrect b n t
true_along a b m n t p q r e truth =
    subst (λ f. AreCorrect b f t) (fun_ext e) (subst (λ w. AreCorrect w m t) (same_said a b p q r) truth)

-- what is said once Append took the items
abbrev pub append_said_all : {E V : Type 0} → SaysOfSlot E V → List (Item E V) → SaysOfSlot E V
append_said_all said xs = record { lowest = said.lowest; rewrite = said.rewrite; append = λ s. option_or (says s xs) (said.append s) }

pub grows_by : {E V : Type 0} (said : SaysOfSlot E V) (m : Slot → Option (Content E V)) (t : Whereabouts) (xs : List (Item E V)) (u : Whereabouts) → GrowsBy t xs u
    → AreCorrect said m t → AreCorrect (append_said_all said xs) (after m xs) u
grows_by said m t [] u e b = subst (λ v. AreCorrect (append_said_all said []) (after m []) v) (sym e) b
grows_by said m t (x ∷ xs) u h b =
    true_along (append_said_all (append_said said x) xs) (append_said_all said (x ∷ xs)) (after (stepped m x) xs) (after m (x ∷ xs)) u
    (λ s. refl) (λ s. refl) (λ s. sym (option_or_assoc (says s xs) (write s x) (said.append s)))
    (λ s. sym (unwrap_or_option_or (says s xs) (write s x) (m s)))
    (grows_by (append_said said x) (stepped m x) h.0 xs u h.2 (grows said m t b x h.0 h.1))
