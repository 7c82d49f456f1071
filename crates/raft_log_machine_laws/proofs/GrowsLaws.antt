-- Which slots come to stand in a queue by an item, and which stay.
use Rattle.std.proofs.Common.{◌≡◌, ℕ, ◌+◌, ◌<◌, ◌≤◌, ◌⊎◌, min, max, true, false, Bool, List, [], ◌∷◌, length, Option, Some, None, unwrap_or, bytes_eq, if◌then◌else◌, refl, sym, ap, ◌∙◌, subst, inl, inr, arith}
use Rattle.std.proofs.lemmas.Bool.{cases_lt}
use Rattle.std.specs.Option.{option_or}
use Rattle.raft_log_model_laws.specs.Item.{Item}
use Rattle.raft_log_model_laws.specs.Item.Item.{Run, Clean, Compact, Put, Del}
use Rattle.raft_log_model_laws.specs.Meaning.{Slot, Content, write, says, after}
use Rattle.raft_log_model_laws.specs.Meaning.Slot.{Index, Key}
use Rattle.raft_log_model_laws.specs.Meaning.Content.{Value}
use Rattle.raft_log_model_laws.proofs.Public.{run_leaves, run_sets, unwrap_or_option_or}
use Rattle.raft_log_machine_laws.specs.Survival.{IsSpoken}
use Rattle.raft_log_machine_laws.specs.Whereabouts.{Whereabouts, AppendTakes, GrowsBy, Carries, CarriesAll}
use Rattle.raft_log_machine_laws.proofs.Starts.{spoken_newer}
use Rattle.raft_log_machine_laws.proofs.TruthGrows.{spoken_after}
use Rattle.raft_log_machine_laws.specs.Notes.{IsAppended, IsInRewrite}

-- a slot in Rewrite after an item: nothing stands there now, or it was in Rewrite and is as empty as it was
abbrev pub WasInRewrite : {E V : Type 0} → Whereabouts → (Slot → Option (Content E V)) → Whereabouts → (Slot → Option (Content E V)) → Type 0
WasInRewrite t m u n = (s : Slot) → IsInRewrite u s → (n s ≡ None) ⊎ (IsInRewrite t s × (m s ≡ None → n s ≡ None))

none_kept : {C : Type 0} (word : Option (Option C)) (m : Option C) → word ≡ None → m ≡ None → unwrap_or word m ≡ None
none_kept word m e h = ap (λ w. unwrap_or w m) e ∙ h

emptied : {C : Type 0} (b : Bool) (m : Option C) → m ≡ None → unwrap_or (if b then Some None else None) m ≡ None
emptied true m h = refl
emptied false m h = h

-- the answer of a test with another answer for one key
other_key : (b old : Bool) → (if b then true else old) ≡ false → (b ≡ false) × (old ≡ false)
other_key true old h = let no_way : true ≡ false = h in cc
other_key false old h = (refl, h)

put_leaves : {E V : Type 0} (b : Bool) (v : V) (m : Option (Content E V)) → b ≡ false → m ≡ None → unwrap_or (if b then Some (Some (Value v)) else None) m ≡ None
put_leaves true v m h k = let no_way : true ≡ false = h in cc
put_leaves false v m h k = k

same_or_true : (b old : Bool) → (if b then true else old) ≡ true → (old ≡ true) ⊎ (b ≡ true)
same_or_true true old h = inr refl
same_or_true false old h = inl h

not_gone : (b old : Bool) → (if b then false else old) ≡ true → old ≡ true
not_gone true old h = let no_way : false ≡ true = h in cc
not_gone false old h = h

module _ {E V : Type 0} where
  run_was : (t u : Whereabouts) (m : Slot → Option (Content E V)) (f : ℕ) (e : E) (es : List E) → AppendTakes {E = E} {V = V} t (Run f (e ∷ es)) u
      → WasInRewrite t m u (after m (Run f (e ∷ es) ∷ []))
  run_was t u m f e es h (Index i) at = elim h.1 [
    | inl alone ↦ absurd (nothing_left alone.1)
    | inr on ↦ inr (below on.1)
  ]
    where
      nothing_left : u ≡ record t { first = f; split = f; end = f + length (e ∷ es) } → ⊥
      nothing_left same =
          let low : u.first ≡ f = ap (λ x. x.first) same in
          let high : u.split ≡ f = ap (λ x. x.split) same in
          omega (arith, at.0, at.1, low, high)

      below : u ≡ record t { split = min t.split f; end = f + length (e ∷ es) }
          → IsInRewrite t (Index i) × (m (Index i) ≡ None → after m (Run f (e ∷ es) ∷ []) (Index i) ≡ None)
      below same =
          let low : u.first ≡ t.first = ap (λ x. x.first) same in
          let high : u.split ≡ min t.split f = ap (λ x. x.split) same in
          let under : i < f = omega (arith, at.1, high) in (
            (omega (arith, at.0, low), omega (arith, at.1, high)),
            λ none. none_kept (option_or None (write (Index i) (Run f (e ∷ es)))) (m (Index i)) (run_leaves i f (e ∷ es) under) none,
          )
  run_was t u m f e es h (Key k) at =
      elim h.1 [
        | inl alone ↦ inr (subst (λ b. b ≡ false) (ap (λ x. x.appended k) alone.1) at, λ none. none)
        | inr on ↦ inr (subst (λ b. b ≡ false) (ap (λ x. x.appended k) on.1) at, λ none. none)
      ]

  pub item_was : (t u : Whereabouts) (m : Slot → Option (Content E V)) (x : Item E V) → AppendTakes t x u → WasInRewrite t m u (after m (x ∷ []))
  item_was t u m (Run f []) h (Index i) at = inr (subst (λ x. IsInRewrite x (Index i)) h at, λ none. none)
  item_was t u m (Run f []) h (Key k) at = inr (subst (λ x. IsInRewrite x (Key k)) h at, λ none. none)
  item_was t u m (Run f (e ∷ es)) h s at = run_was t u m f e es h s at
  item_was t u m Clean h (Index i) at = inl refl
  item_was t u m Clean h (Key k) at = inl refl
  item_was t u m (Compact c) h (Index i) at =
      let low : u.first ≡ max t.first (min c t.end) = ap (λ x. x.first) h in
      let high : u.split ≡ max t.split (max t.first (min c t.end)) = ap (λ x. x.split) h in
      inr ((omega (arith, at.0, low), omega (arith, at.0, at.1, low, high)), λ none. emptied _ (m (Index i)) none)
  item_was t u m (Compact c) h (Key k) at = inr (subst (λ b. b ≡ false) (ap (λ x. x.appended k) h) at, λ none. none)
  item_was t u m (Put l v) h (Index i) at = inr (subst (λ x. IsInRewrite x (Index i)) h at, λ none. none)
  item_was t u m (Put l v) h (Key k) at =
      let other : (bytes_eq l k ≡ false) × (t.appended k ≡ false) = other_key (bytes_eq l k) (t.appended k) (subst (λ x. x.appended k ≡ false) h at) in
      inr (other.1, λ none. put_leaves (bytes_eq l k) v (m (Key k)) other.0 none)
  item_was t u m (Del l) h (Index i) at =
      let low : u.first ≡ t.first = ap (λ x. x.first) h.2 in
      let high : u.split ≡ t.split = ap (λ x. x.split) h.2 in
      inr ((omega (arith, at.0, low), omega (arith, at.1, high)), λ none. none)
  item_was t u m (Del l) h (Key k) at = deleted (bytes_eq l k) (subst (λ x. x.appended k ≡ false) h.2 at)
    where
      deleted : (b : Bool) → (if b then false else t.appended k) ≡ false
          → (unwrap_or (if b then Some None else None) (m (Key k)) ≡ None)
          ⊎ ((t.appended k ≡ false) × (m (Key k) ≡ None → unwrap_or (if b then Some None else None) (m (Key k)) ≡ None))
      deleted true old = inl refl
      deleted false old = inr (old, λ none. none)

  was_trans : (t u v : Whereabouts) (m n o : Slot → Option (Content E V)) → WasInRewrite t m u n → WasInRewrite u n v o → WasInRewrite t m v o
  was_trans t u v m n o h k s at = elim (k s at) [
    | inl none ↦ inl none
    | inr later ↦ elim (h s later.0) [ inl none ↦ inl (later.1 none) | inr first ↦ inr (first.0, λ none. later.1 (first.1 none)) ]
  ]

  same_after : (t u : Whereabouts) (m n o : Slot → Option (Content E V)) → ((s : Slot) → n s ≡ o s) → WasInRewrite t m u n → WasInRewrite t m u o
  same_after t u m n o same h s at = elim (h s at) [
    | inl none ↦ inl (sym (same s) ∙ none)
    | inr was ↦ inr (was.0, λ none. sym (same s) ∙ was.1 none)
  ]

  -- a list of items
  pub items_were : (t u : Whereabouts) (m : Slot → Option (Content E V)) (xs : List (Item E V)) → GrowsBy t xs u → WasInRewrite t m u (after m xs)
  items_were t u m [] h s at = inr (subst (λ x. IsInRewrite x s) h at, λ none. none)
  items_were t u m (x ∷ xs) h s at =
      same_after t u m (after (after m (x ∷ [])) xs) (after m (x ∷ xs)) (λ s. sym (unwrap_or_option_or (says s xs) (write s x) (m s)))
      (was_trans t h.0 u m (after m (x ∷ [])) (after (after m (x ∷ [])) xs) (item_was t h.0 m x h.1) (items_were h.0 u (after m (x ∷ [])) xs h.2)) s at

  -- what comes to stand in Append by an item, the item speaks of
  spoken_if : (b : Bool) (v : Option (Content E V)) → b ≡ true → IsSpoken (if b then Some v else None)
  spoken_if true v h = (v, refl)
  spoken_if false v h = let no_way : false ≡ true = h in cc

  spoken_run : (i f : ℕ) (e : E) (es : List E) → f ≤ i → IsSpoken (write {V = V} (Index i) (Run f (e ∷ es)))
  spoken_run i f e es h = (_, run_sets i f (e ∷ es) h (omega arith))

  pub item_appends : (t u : Whereabouts) (x : Item E V) (s : Slot) → AppendTakes t x u → IsAppended u s → IsAppended t s ⊎ IsSpoken (write s x)
  item_appends t u (Run f []) s h at = inl (subst (λ x. IsAppended x s) h at)
  item_appends t u (Run f (e ∷ es)) (Index i) h at = elim h.1 [ inl alone ↦ inr (new alone.1) | inr on ↦ more on.0.1 on.1 (cases_lt i f) ]
    where
      new : u ≡ record t { first = f; split = f; end = f + length (e ∷ es) } → IsSpoken (write {V = V} (Index i) (Run f (e ∷ es)))
      new same = let low : u.split ≡ f = ap (λ x. x.split) same in spoken_run i f e es (omega (arith, at.0, low))

      more : f ≤ t.end → u ≡ record t { split = min t.split f; end = f + length (e ∷ es) } → (i < f) ⊎ (f ≤ i)
          → IsAppended t (Index i) ⊎ IsSpoken (write {V = V} (Index i) (Run f (e ∷ es)))
      more in_reach same (inl below) =
          let low : u.split ≡ min t.split f = ap (λ x. x.split) same in inl (omega (arith, at.0, low), omega arith)
      more in_reach same (inr above) = inr (spoken_run i f e es above)
  item_appends t u (Run f (e ∷ es)) (Key k) h at = elim h.1 [
    | inl alone ↦ inl (subst (λ b. b ≡ true) (ap (λ x. x.appended k) alone.1) at)
    | inr on ↦ inl (subst (λ b. b ≡ true) (ap (λ x. x.appended k) on.1) at)
  ]
  item_appends t u Clean s h at = inr (None, clean_speaks s)
    where
      clean_speaks : (s : Slot) → write {E = E} {V = V} s Clean ≡ Some None
      clean_speaks (Index i) = refl
      clean_speaks (Key k) = refl
  item_appends t u (Compact c) (Index i) h at =
      let low : u.split ≡ max t.split (max t.first (min c t.end)) = ap (λ x. x.split) h in
      let high : u.end ≡ t.end = ap (λ x. x.end) h in
      inl (omega (arith, at.0, low), omega (arith, at.1, high))
  item_appends t u (Compact c) (Key k) h at = inl (subst (λ b. b ≡ true) (ap (λ x. x.appended k) h) at)
  item_appends t u (Put l v) (Index i) h at = inl (subst (λ x. IsAppended x (Index i)) h at)
  item_appends t u (Put l v) (Key k) h at = elim (same_or_true (bytes_eq l k) (t.appended k) (subst (λ x. x.appended k ≡ true) h at)) [
    | inl old ↦ inl old
    | inr new ↦ inr (spoken_if (bytes_eq l k) (Some (Value v)) new)
  ]
  item_appends t u (Del l) (Index i) h at =
      let low : u.split ≡ t.split = ap (λ x. x.split) h.2 in
      let high : u.end ≡ t.end = ap (λ x. x.end) h.2 in
      inl (omega (arith, at.0, low), omega (arith, at.1, high))
  item_appends t u (Del l) (Key k) h at = inl (not_gone (bytes_eq l k) (t.appended k) (subst (λ x. x.appended k ≡ true) h.2 at))

  pub items_append : (t u : Whereabouts) (xs : List (Item E V)) (s : Slot) → GrowsBy t xs u → IsAppended u s → IsAppended t s ⊎ IsSpoken (says s xs)
  items_append t u [] s h at = inl (subst (λ x. IsAppended x s) h at)
  items_append t u (x ∷ xs) s h at = elim (items_append h.0 u xs s h.2 at) [
    | inl before ↦ elim (item_appends t h.0 x s h.1 before) [ inl old ↦ inl old | inr new ↦ inr (spoken_after (says s xs) (write s x) new) ]
    | inr new ↦ inr (spoken_newer (says s xs) (write s x) (says s (x ∷ xs)) refl new)
  ]

  -- what comes to stand in Rewrite by an item, the item speaks of
  pub item_carries : (m : Slot → Option (Content E V)) (t u : Whereabouts) (x : Item E V) (s : Slot) → Carries m t x u → IsInRewrite u s
      → IsInRewrite t s ⊎ IsSpoken (write s x)
  item_carries m t u (Run f []) s h at = inl (subst (λ x. IsInRewrite x s) h at)
  item_carries m t u (Run f (e ∷ es)) (Index i) h at =
      let low : u.first ≡ t.first = ap (λ x. x.first) h.6 in
      let under : f ≤ t.split = h.1 in
      elim (cases_lt i t.split) [
        | inl below ↦ inl (omega (arith, at.0, low), below)
        | inr above ↦ inr (spoken_run i f e es (omega arith))
      ]
  item_carries m t u (Run f (e ∷ es)) (Key k) h at = inl (subst (λ b. b ≡ false) (ap (λ x. x.appended k) h.6) at)
  item_carries m t u Clean s h at = inl (subst (λ x. IsInRewrite x s) h.1 at)
  item_carries m t u (Compact c) s h at = inl (subst (λ x. IsInRewrite x s) h.1 at)
  item_carries m t u (Put l v) (Index i) h at = inl (subst (λ x. IsInRewrite x (Index i)) h.2 at)
  item_carries m t u (Put l v) (Key k) h at = put (bytes_eq l k) (subst (λ x. x.appended k ≡ false) h.2 at)
    where
      put : (b : Bool) → (if b then false else t.appended k) ≡ false → (t.appended k ≡ false) ⊎ IsSpoken {C = Content E V} (if b then Some (Some (Value v)) else None)
      put true old = inr (Some (Value v), refl)
      put false old = inl old
  item_carries m t u (Del l) s h at = inl (subst (λ x. IsInRewrite x s) h.1 at)

  pub items_carry : (m : Slot → Option (Content E V)) (t u : Whereabouts) (xs : List (Item E V)) (s : Slot) → CarriesAll m t xs u → IsInRewrite u s
      → IsInRewrite t s ⊎ IsSpoken (says s xs)
  items_carry m t u [] s h at = inl (subst (λ x. IsInRewrite x s) h at)
  items_carry m t u (x ∷ xs) s h at = elim (items_carry m h.0 u xs s h.2 at) [
    | inl before ↦ elim (item_carries m t h.0 x s h.1 before) [ inl old ↦ inl old | inr new ↦ inr (spoken_after (says s xs) (write s x) new) ]
    | inr new ↦ inr (spoken_newer (says s xs) (write s x) (says s (x ∷ xs)) refl new)
  ]

  -- nothing comes to stand in Append by what Rewrite takes
  pub item_shrinks : (m : Slot → Option (Content E V)) (t u : Whereabouts) (x : Item E V) (s : Slot) → Carries m t x u → IsAppended u s → IsAppended t s
  item_shrinks m t u (Run f []) s h at = subst (λ x. IsAppended x s) h at
  item_shrinks m t u (Run f (e ∷ es)) (Index i) h at =
      let low : u.split ≡ f + length (e ∷ es) = ap (λ x. x.split) h.6 in
      let high : u.end ≡ t.end = ap (λ x. x.end) h.6 in
      let past : t.split ≤ f + length (e ∷ es) = h.2 in
      (omega (arith, at.0, low), omega (arith, at.1, high))
  item_shrinks m t u (Run f (e ∷ es)) (Key k) h at = subst (λ b. b ≡ true) (ap (λ x. x.appended k) h.6) at
  item_shrinks m t u Clean s h at = subst (λ x. IsAppended x s) h.1 at
  item_shrinks m t u (Compact c) s h at = subst (λ x. IsAppended x s) h.1 at
  item_shrinks m t u (Put l v) (Index i) h at = subst (λ x. IsAppended x (Index i)) h.2 at
  item_shrinks m t u (Put l v) (Key k) h at = not_gone (bytes_eq l k) (t.appended k) (subst (λ x. x.appended k ≡ true) h.2 at)
  item_shrinks m t u (Del l) s h at = subst (λ x. IsAppended x s) h.1 at

  pub items_shrink : (m : Slot → Option (Content E V)) (t u : Whereabouts) (xs : List (Item E V)) (s : Slot) → CarriesAll m t xs u → IsAppended u s → IsAppended t s
  items_shrink m t u [] s h at = subst (λ x. IsAppended x s) h at
  items_shrink m t u (x ∷ xs) s h at = item_shrinks m t h.0 x s h.1 (items_shrink m h.0 u xs s h.2 at)
