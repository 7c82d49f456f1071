-- Whereabouts don't care what stands for an entry.
use Rattle.std.proofs.Common.{◌≡◌, ℕ, ◌+◌, ◌-◌, ◌<◌, ◌≤◌, ◌⊎◌, min, false, ◌||◌, bytes_eq, List, [], ◌∷◌, map, length, Option, Some, None, option_map, slice_get, refl, sym, ap, ◌∙◌, subst, inl, inr}
use Rattle.std.proofs.lemmas.List.{length-map}
use Rattle.std.proofs.lemmas.Option.{slice_get-map}
use Rattle.raft_log_model_laws.specs.Item.{Item}
use Rattle.raft_log_model_laws.specs.Item.Item.{Run, Clean, Compact, Put, Del}
use Rattle.raft_log_model_laws.specs.Meaning.{Content}
use Rattle.raft_log_model_laws.specs.Meaning.Slot.{Index, Key}
use Rattle.raft_log_model_laws.specs.Meaning.Content.{Entry}
use Rattle.raft_log_model_laws.specs.Groups.{Map}
use Rattle.raft_log_model_laws.specs.Holes.{has_clean}
use Rattle.raft_log_model_laws.specs.Renamed.{renamed, renamed_content, renamed_word, renamed_map}
use Rattle.raft_log_model_laws.proofs.Public.{says_renamed}
use Rattle.raft_log_machine_laws.specs.Whereabouts.{Whereabouts, top, Alone, GoesOn, AppendTakes, GrowsBy, RunStands, NothingRewritten, Carries, CarriesAll, HasAppended, HasRewritten}
use Rattle.raft_log_machine_laws.specs.Recovery.{has_compact, has_del, IsRecovered}
use Rattle.raft_log_machine_laws.specs.Images.{IsOneRun}

same_length : {E F : Type 0} (f : E → F) (e : E) (es : List E) → length (map f (e ∷ es)) ≡ length (e ∷ es)
same_length f e es = length-map (e ∷ es) f

-- what a run of this length makes of the whereabouts
abbrev RunGrows : Whereabouts → ℕ → Whereabouts → ℕ → Type 0
RunGrows t first u n =
    (first + n ≤ top)
    × ((Alone t first × (u ≡ record t { first = first; split = first; end = first + n }))
    ⊎ (GoesOn t first × (u ≡ record t { split = min t.split first; end = first + n })))

-- what a run of this length has to meet, and makes of the whereabouts
abbrev RunCarries : Whereabouts → ℕ → Whereabouts → Type 0 → ℕ → Type 0
RunCarries t first u Same n =
    (t.first ≤ first) × (first ≤ t.split) × (t.split ≤ first + n) × (first + n ≤ t.end)
    × Same
    × ((t.split ≡ first + n) ⊎ ((t.cleaned ≡ false) × (t.compacted ≡ false)))
    × (u ≡ record t { split = first + n })

entry_of : {E F V : Type 0} (f : E → F) (o : Option E)
    → ◌≡◌ {A = Option (Content F V)} (option_map Entry (option_map f o)) (option_map (renamed_content f) (option_map Entry o))
entry_of f None = refl
entry_of f (Some e) = refl

module _ {E F V : Type 0} (f : E → F) where
  grows_renamed : (t : Whereabouts) (x : Item E V) (u : Whereabouts) → AppendTakes t x u → AppendTakes t (renamed f x) u
  grows_renamed t (Run n []) u h = h
  grows_renamed t (Run n (e ∷ es)) u h = subst (RunGrows t n u) (sym (same_length f e es)) h
  grows_renamed t Clean u h = h
  grows_renamed t (Compact c) u h = h
  grows_renamed t (Put k v) u h = h
  grows_renamed t (Del k) u h = h

  grew_renamed : (t : Whereabouts) (x : Item E V) (u : Whereabouts) → AppendTakes t (renamed f x) u → AppendTakes t x u
  grew_renamed t (Run n []) u h = h
  grew_renamed t (Run n (e ∷ es)) u h = subst (RunGrows t n u) (same_length f e es) h
  grew_renamed t Clean u h = h
  grew_renamed t (Compact c) u h = h
  grew_renamed t (Put k v) u h = h
  grew_renamed t (Del k) u h = h

  pub grows_by_renamed : (t : Whereabouts) (xs : List (Item E V)) (u : Whereabouts) → GrowsBy t xs u → GrowsBy t (map (renamed f) xs) u
  grows_by_renamed t [] u h = h
  grows_by_renamed t (x ∷ xs) u h = (h.0, grows_renamed t x h.0 h.1, grows_by_renamed h.0 xs u h.2)

  pub grew_by_renamed : (t : Whereabouts) (xs : List (Item E V)) (u : Whereabouts) → GrowsBy t (map (renamed f) xs) u → GrowsBy t xs u
  grew_by_renamed t [] u h = h
  grew_by_renamed t (x ∷ xs) u h = (h.0, grew_renamed t x h.0 h.1, grew_by_renamed h.0 xs u h.2)

module _ {E F V : Type 0} (f : E → F) (m : Map E V) (g : ℕ) where
  restates_renamed : (n : ℕ) (e : E) (es : List E) → RunStands (m g) n (e ∷ es) → RunStands (renamed_map f m g) n (map f (e ∷ es))
  restates_renamed n e es h i from to =
      ap (option_map Entry) (slice_get-map f (e ∷ es) (i - n)) ∙ entry_of f (slice_get (e ∷ es) (i - n))
      ∙ ap (option_map (renamed_content f)) (h i from (subst (λ l. i < n + l) (same_length f e es) to))

  nothing_renamed : (t : Whereabouts) → NothingRewritten (m g) t → NothingRewritten (renamed_map f m g) t
  nothing_renamed t h = (h.0, λ k a. ap (option_map (renamed_content f)) (h.1 k a))

  carries_renamed : (t : Whereabouts) (x : Item E V) (u : Whereabouts) → Carries (m g) t x u → Carries (renamed_map f m g) t (renamed f x) u
  carries_renamed t (Run n []) u h = h
  carries_renamed t (Run n (e ∷ es)) u h =
      subst (RunCarries t n u (RunStands (renamed_map f m g) n (map f (e ∷ es)))) (sym (same_length f e es))
      (h.0, h.1, h.2, h.3, restates_renamed n e es h.4, h.5, h.6)
  carries_renamed t Clean u h = (elim h.0 [ inl owed ↦ inl owed | inr none ↦ inr (nothing_renamed t none) ], h.1)
  carries_renamed t (Compact c) u h = h
  carries_renamed t (Put k v) u h = (ap (option_map (renamed_content f)) h.0, h.1, h.2)
  carries_renamed t (Del k) u h =
      (elim h.0 [ inl owed ↦ inl owed | inr none ↦ inr (λ a. ap (option_map (renamed_content f)) (none a)) ], h.1)

  pub carries_all_renamed : (t : Whereabouts) (xs : List (Item E V)) (u : Whereabouts) → CarriesAll (m g) t xs u → CarriesAll (renamed_map f m g) t (map (renamed f) xs) u
  carries_all_renamed t [] u h = h
  carries_all_renamed t (x ∷ xs) u h = (h.0, carries_renamed t x h.0 h.1, carries_all_renamed h.0 xs u h.2)

module _ {E F V : Type 0} (f : E → F) where
  clean_renamed : (xs : List (Item E V)) → has_clean (map (renamed f) xs) ≡ has_clean xs
  clean_renamed [] = refl
  clean_renamed (Run n es ∷ xs) = clean_renamed xs
  clean_renamed (Clean ∷ xs) = refl
  clean_renamed (Compact c ∷ xs) = clean_renamed xs
  clean_renamed (Put k v ∷ xs) = clean_renamed xs
  clean_renamed (Del k ∷ xs) = clean_renamed xs

  compact_renamed : (xs : List (Item E V)) → has_compact (map (renamed f) xs) ≡ has_compact xs
  compact_renamed [] = refl
  compact_renamed (Run n es ∷ xs) = compact_renamed xs
  compact_renamed (Clean ∷ xs) = compact_renamed xs
  compact_renamed (Compact c ∷ xs) = refl
  compact_renamed (Put k v ∷ xs) = compact_renamed xs
  compact_renamed (Del k ∷ xs) = compact_renamed xs

  del_renamed : (k : List ℕ) (xs : List (Item E V)) → has_del k (map (renamed f) xs) ≡ has_del k xs
  del_renamed k [] = refl
  del_renamed k (Run n es ∷ xs) = del_renamed k xs
  del_renamed k (Clean ∷ xs) = del_renamed k xs
  del_renamed k (Compact c ∷ xs) = del_renamed k xs
  del_renamed k (Put l v ∷ xs) = del_renamed k xs
  del_renamed k (Del l ∷ xs) = ap (λ b. bytes_eq l k || b) (del_renamed k xs)

  pub recovered_renamed : (m : Map E V) (g : ℕ) (xs : List (Item E V)) (t : Whereabouts) → IsRecovered (m g) xs t → IsRecovered (renamed_map f m g) (map (renamed f) xs) t
  recovered_renamed m g xs t r = record {
    in_order = r.in_order;
    below = λ i h. ap (option_map (renamed_content f)) (r.below i h);
    above = λ i h. ap (option_map (renamed_content f)) (r.above i h);
    rewritten = λ i from high. let it = r.rewritten i from high in
        (says_renamed f (Index i) xs ∙ ap (renamed_word f) it.0, (renamed_content f it.1.0, ap (option_map (renamed_content f)) it.1.1));
    newer = λ i from high. let it = r.newer i from high in (renamed_content f it.0, says_renamed f (Index i) xs ∙ ap (renamed_word f) it.1);
    key_newer = λ k a. let it = r.key_newer k a in (renamed_content f it.0, says_renamed f (Key k) xs ∙ ap (renamed_word f) it.1);
    key_older = λ k a. elim (r.key_older k a) [
      | inl none ↦ inl (ap (option_map (renamed_content f)) none)
      | inr quiet ↦ inr (says_renamed f (Key k) xs ∙ ap (renamed_word f) quiet)
    ];
    marks = record {
      cleaned = r.marks.cleaned ∙ sym (clean_renamed xs);
      compacted = λ c h. r.marks.compacted (sym (clean_renamed xs) ∙ c) (sym (compact_renamed xs) ∙ h);
      deleted = λ k c h. r.marks.deleted k (sym (clean_renamed xs) ∙ c) (sym (del_renamed k xs) ∙ h);
      was_deleted = λ k h. del_renamed k xs ∙ r.marks.was_deleted k h;
    };
  }

  pub has_appended_renamed : (t : Whereabouts) (xs : List (Item E V)) → HasAppended t xs → HasAppended t (map (renamed f) xs)
  has_appended_renamed t xs h = (
    λ i from to. let it = h.0 i from to in (renamed_content f it.0, says_renamed f (Index i) xs ∙ ap (renamed_word f) it.1),
    λ k a. let it = h.1 k a in (option_map (renamed_content f) it.0, says_renamed f (Key k) xs ∙ ap (renamed_word f) it.1),
  )

  pub has_rewritten_renamed : (m : Map E V) (g : ℕ) (t : Whereabouts) (xs : List (Item E V)) → HasRewritten (m g) t xs → HasRewritten (renamed_map f m g) t (map (renamed f) xs)
  has_rewritten_renamed m g t xs h = (
    λ i from to. says_renamed f (Index i) xs ∙ ap (renamed_word f) (h.0 i from to),
    λ k a. elim (h.1 k a) [
      | inl none ↦ inl (ap (option_map (renamed_content f)) none)
      | inr there ↦ inr (says_renamed f (Key k) xs ∙ ap (renamed_word f) there)
    ],
  )

  pub run_renamed : (m : Map E V) (g : ℕ) → IsOneRun (m g) → IsOneRun (renamed_map f m g)
  run_renamed m g r = record {
    first = r.first;
    end = r.end;
    in_range = r.in_range;
    below = λ i h. ap (option_map (renamed_content f)) (r.below i h);
    above = λ i h. ap (option_map (renamed_content f)) (r.above i h);
    solid = λ i from to. let it = r.solid i from to in (renamed_content f it.0, ap (option_map (renamed_content f)) it.1);
  }
