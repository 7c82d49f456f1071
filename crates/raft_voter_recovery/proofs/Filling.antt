-- Group by group all voters are read.
use Rattle.std.proofs.Common.{◌≡◌, ◌∙◌, ◌⊎◌, ℕ, zero, suc, ◌<◌, ◌||◌, ◌==◌, Bool, true, false, cond, List, [], ◌∷◌, ◌++◌, length, take, get_or, Option, Some, None, option_map, refl, sym, ap, subst, inl, inr, arith}
use Rattle.std.specs.List.{AllByRecursion, list_any}
use Rattle.std.specs.declared.cmp.Ordering.TheVariants.{Less}
use Rattle.std.specs.List.Sorted.{IsStrictlySortedBy}
use Rattle.std.specs.Map.{keys_of, lookup}
use Rattle.std.specs.Ordering.{nat_cmp}
use Rattle.std.specs.Prelude.{unwrap_or}
use Rattle.std.proofs.lemmas.Bool.{cases_Bool}
use Rattle.std.proofs.lemmas.Bool.Decides.{nat_tests}
use Rattle.std.proofs.lemmas.List.{get_or_default, map-append}
use Rattle.std.proofs.lemmas.List.Folds.{list_any-append}
use Rattle.std.proofs.lemmas.Map.Keys.{below_from_sorted, sorted_from_strictly_increasing, sorted_tail}
use Rattle.raft_log_model_laws.specs.Meaning.{Slot}
use Rattle.raft_log_model_laws.specs.Meaning.Slot.{Index, Key}
use Rattle.raft_log_model_laws.specs.Meaning.Content.{Value}
use Rattle.raft_log_model_laws.proofs.Public.{eq_false, eq_true, from_eq_false, from_eq_true}
use Rattle.raft_log_memtable_index.specs.Bridge.{bytes_held}
use Rattle.raft_log_memtable_index.specs.Shown.{Shown}
use Rattle.raft_voter_durability_laws.specs.raft_log_engine_laws.specs.raft_log_memtables.specs.Bare.{HasNothing}
use Rattle.raft_voter_durability_laws.specs.raft_log_engine_laws.specs.raft_log_memtables.specs.Walking.{ListsGroups}
use Rattle.raft_voter_durability_laws.specs.raft_log_engine_laws.specs.raft_log_memtable.specs.Reads.{last_of}
use Rattle.raft_voter_durability_laws.specs.raft_log_engine_laws.specs.EngineState.{LogDirectories, LogMap, EngineState}
use Rattle.raft_voter_durability_laws.specs.raft_log_engine_laws.specs.Fetching.{StaysButBlock}
use Rattle.raft_voter_durability_laws.specs.raft_log_engine_laws.specs.Holding.{Represents}
use Rattle.raft_voter_durability_laws.specs.raft_log_engine_laws.specs.Reading.{IsLastIn}
use Rattle.raft_voter_durability_laws.specs.raft_log_engine_laws.proofs.Public.{tables_tell}
use Rattle.raft_voter_outline.specs.State.{State, fresh}
use Rattle.raft_voter_records.specs.Voters.{HoldsVoter, IsVoid, IsVoter}
use Rattle.raft_voter_recovery.specs.Listing.{AddsOutline, AddsVoter, HasOutline}
use Rattle.raft_voter_recovery.specs.Reading.{HoldEach, ListsVoters, ReadsVoters, Tells}
use Rattle.raft_voter_recovery.proofs.Telling.{told_before}

-- whether a group is among these
abbrev pub is_among : ℕ → List ℕ → Bool
is_among g gs = list_any (λ k. k == g) gs

-- a group that doesn't count shows nothing
abbrev pub IsBareWhereUncounted : EngineState → Type 0
IsBareWhereUncounted s = (g : ℕ) → s.counts g ≡ false → HasNothing (s.tables g)

-- and nothing stands in it
uncounted_void : (s : EngineState) (g : ℕ) → HasNothing (s.tables g) → Tells s (λ m. IsVoid (m g))
uncounted_void s g bare = λ home m h slot. by_slot home m h slot
  where
    none : (v : Shown) → length v.places ≡ 0 → last_of v ≡ None
    none v empty = grind (arith, nat_tests)

    by_slot : (home : LogDirectories) (m : LogMap) → Represents home s m [] → (slot : Slot) → m g slot ≡ None
    by_slot home m h (Index i) =
        (subst (λ (o : Option ℕ). IsLastIn m g o) (none (s.tables g) bare.entries) ((tables_tell.last s g).exact home m [] h)) i
    by_slot home m h (Key k) =
        (tables_tell.value s g k).exact home m [] h ∙ ap (λ o. option_map Value (bytes_held o)) (bare.values k)

-- One more group.

among_more : (g h : ℕ) (gs : List ℕ) → is_among h (gs ++ g ∷ []) ≡ true → (is_among h gs ≡ true) ⊎ (h ≡ g)
among_more g h gs is = by (is_among h gs) (g == h) refl refl (sym (list_any-append (λ k. k == h) gs (g ∷ [])) ∙ is)
  where
    by : (a b : Bool) → is_among h gs ≡ a → (g == h) ≡ b → (a || (b || false)) ≡ true → (is_among h gs ≡ true) ⊎ (h ≡ g)
    by true b at here t = inl at
    by false true at here t = inr (sym (from_eq_true g h here))
    by false false at here t = absurd (let no : ⊥ = cc in no)

not_among : (g h : ℕ) (gs : List ℕ) → is_among h (gs ++ g ∷ []) ≡ false → (is_among h gs ≡ false) × ((h == g) ≡ false)
not_among g h gs is = by (is_among h gs) (g == h) refl refl (sym (list_any-append (λ k. k == h) gs (g ∷ [])) ∙ is)
  where
    by : (a b : Bool) → is_among h gs ≡ a → (g == h) ≡ b → (a || (b || false)) ≡ false → (is_among h gs ≡ false) × ((h == g) ≡ false)
    by true b at here t = absurd (let no : ⊥ = cc in no)
    by false true at here t = absurd (let no : ⊥ = cc in no)
    by false false at here t = (at, eq_false h g (λ e. from_eq_false g h here (sym e)))

-- Outlines.

-- the outlines of some groups' voters were read, and all others are fresh
pub record OutlinesOf (s : EngineState) (gs : List ℕ) (os : ℕ → State) : Type 0 where
  pub read : (g : ℕ) → is_among g gs ≡ true → Tells s (λ m. HasOutline (os g) (m g))
  pub others : (g : ℕ) → is_among g gs ≡ false → os g ≡ fresh

-- what was found of a group is kept
pub outline_kept : (s : EngineState) (g : ℕ) (os us : ℕ → State) (o : State) → Tells s (λ m. HasOutline o (m g)) → us g ≡ o → ((h : ℕ) → (h == g) ≡ false → us h ≡ os h) → AddsOutline s g os us
outline_kept s g os us o told own others = inl (others, subst (λ (v : State). Tells s (λ m. HasOutline v (m g))) (sym own) told)

-- of an engine behind reads
pub adds_outline_before : (s t : EngineState) (g : ℕ) (os us : ℕ → State) → StaysButBlock s t → AddsOutline t g os us → AddsOutline s g os us
adds_outline_before s t g os us stays (inl (others, told)) = inl (others, told_before (λ m. HasOutline (us g) (m g)) s t stays told)
adds_outline_before s t g os us stays (inr (same, void)) = inr (same, told_before (λ m. IsVoid (m g)) s t stays void)

pub no_outline : (s : EngineState) (gs : List ℕ) (os : ℕ → State) → gs ≡ [] → ((g : ℕ) → os g ≡ fresh) → OutlinesOf s gs os
no_outline s gs os none is = record {
  read = λ g at. absurd (let no : is_among g [] ≡ true = subst (λ (l : List ℕ). is_among g l ≡ true) none at in let never : ⊥ = cc in never);
  others = λ g at. is g;
}

-- the outline of a fresh voter, where nothing stands
fresh_outline : (s : EngineState) (g : ℕ) (o : State) → o ≡ fresh → Tells s (λ m. IsVoid (m g)) → Tells s (λ m. HasOutline o (m g))
fresh_outline s g o is void = λ home m h. (fresh, inl (void home m h, refl), is)

pub one_outline : (s : EngineState) (g : ℕ) (gs all : List ℕ) (os us : ℕ → State) → OutlinesOf s gs os → AddsOutline s g os us → all ≡ gs ++ g ∷ [] → OutlinesOf s all us
one_outline s g gs all os us known added is = subst (λ (l : List ℕ). OutlinesOf s l us) (sym is) (by_case added)
  where
    by_case : AddsOutline s g os us → OutlinesOf s (gs ++ g ∷ []) us
    by_case (inl new) = record {
      read = λ h at. by_own h at (cases_Bool (h == g));
      others = λ h at. let apart = not_among g h gs at in new.0 h apart.1 ∙ known.others h apart.0;
    }
      where
        by_own : (h : ℕ) → is_among h (gs ++ g ∷ []) ≡ true → ((h == g) ≡ true) ⊎ ((h == g) ≡ false) → Tells s (λ m. HasOutline (us h) (m h))
        by_own h at (inl here) = subst (λ (k : ℕ). Tells s (λ m. HasOutline (us k) (m k))) (sym (from_eq_true h g here)) new.1
        by_own h at (inr apart) = elim (among_more g h gs at) [
          | inl before ↦ subst (λ (o : State). Tells s (λ m. HasOutline o (m h))) (sym (new.0 h apart)) (known.read h before)
          | inr same ↦ absurd (from_eq_false h g apart same)
        ]
    by_case (inr none) = record {
      read = λ h at. subst (λ (o : State). Tells s (λ m. HasOutline o (m h))) (sym (none.0 h)) (by_old h at (cases_Bool (is_among h gs)));
      others = λ h at. none.0 h ∙ known.others h (not_among g h gs at).0;
    }
      where
        by_old : (h : ℕ) → is_among h (gs ++ g ∷ []) ≡ true → (is_among h gs ≡ true) ⊎ (is_among h gs ≡ false) → Tells s (λ m. HasOutline (os h) (m h))
        by_old h at (inl before) = known.read h before
        by_old h at (inr apart) = elim (among_more g h gs at) [
          | inl before ↦ absurd (let no : ⊥ = cc in no)
          | inr same ↦ fresh_outline s h (os h) (known.others h apart) (subst (λ (k : ℕ). Tells s (λ m. IsVoid (m k))) (sym same) none.1)
        ]

-- of other outlines that are the same group by group
pub outlines_same : (s : EngineState) (gs : List ℕ) (os us : ℕ → State) → OutlinesOf s gs os → ((g : ℕ) → us g ≡ os g) → OutlinesOf s gs us
outlines_same s gs os us known same = record {
  read = λ g at. subst (λ (o : State). Tells s (λ m. HasOutline o (m g))) (sym (same g)) (known.read g at);
  others = λ g at. same g ∙ known.others g at;
}

pub outlines_read : (s : EngineState) (gs all : List ℕ) (os : ℕ → State) → IsBareWhereUncounted s → ListsGroups s.counts gs → all ≡ gs → OutlinesOf s all os → ReadsVoters s os
outlines_read s gs all os bare listed whole known = λ home m h.
    let each : (g : ℕ) → HasOutline (os g) (m g) = λ g. by_group g (cases_Bool (is_among g all)) home m h in
    (λ g. (each g).0, λ g. (each g).1, λ g. (each g).2)
  where
    by_group : (g : ℕ) → (is_among g all ≡ true) ⊎ (is_among g all ≡ false) → Tells s (λ m. HasOutline (os g) (m g))
    by_group g (inl at) = known.read g at
    by_group g (inr apart) =
        let uncounted : s.counts g ≡ false = sym (listed.exact g) ∙ ap (is_among g) (sym whole) ∙ apart in
        fresh_outline s g (os g) (known.others g apart) (uncounted_void s g (bare g uncounted))

-- Voters.

-- the voters of some groups were read, from the least up
pub record VotersOf (s : EngineState) (gs : List ℕ) (vs : List (ℕ × State)) : Type 0 where
  pub rising : IsStrictlySortedBy nat_cmp (keys_of vs)
  pub inside : (g : ℕ) → is_among g (keys_of vs) ≡ true → is_among g gs ≡ true
  pub held : Tells s (λ m. HoldEach m vs)
  pub others : (g : ℕ) → is_among g gs ≡ true → lookup (λ k. k == g) vs ≡ None → Tells s (λ m. IsVoid (m g))

less_is : (a b : ℕ) → a < b → nat_cmp a b ≡ Less
less_is a b less = grind (arith, nat_tests)

-- a number above all others comes behind them
push_above : (ks : List ℕ) (g : ℕ) → IsStrictlySortedBy nat_cmp ks → ((k : ℕ) → is_among k ks ≡ true → k < g) → IsStrictlySortedBy nat_cmp (ks ++ g ∷ [])
unfolding IsStrictlySortedBy
push_above [] g rising below = (tt, tt)
push_above (k ∷ ks) g rising below = (
  all_less k ks g rising.0 (below k (let here = eq_true k k refl in ap (λ (b : Bool). b || is_among k ks) here)),
  push_above ks g rising.1 (λ j at. below j (either (k == j) (is_among j ks) at)),
)
  where
    either : (a b : Bool) → b ≡ true → (a || b) ≡ true
    either true b h = refl
    either false b h = h

    all_less : (k : ℕ) (ks : List ℕ) (g : ℕ) → AllByRecursion (λ y. nat_cmp k y ≡ Less) ks → k < g → AllByRecursion (λ y. nat_cmp k y ≡ Less) (ks ++ g ∷ [])
    all_less k [] g h less = (less_is k g less, tt)
    all_less k (j ∷ ks) g h less = (h.0, all_less k ks g h.1 less)

-- a number of a rising list is above all before it
pub above_before : (xs : List ℕ) (i g : ℕ) → IsStrictlySortedBy nat_cmp xs → i < length xs → g ≡ get_or xs i g → (k : ℕ) → is_among k (take i xs) ≡ true → k < g
above_before [] i g rising less is k at = absurd (omega (arith, less))
above_before (x ∷ xs) zero g rising less is k at = absurd (let no : ⊥ = cc in no)
above_before (x ∷ xs) (suc i) g rising less is k at =
    by (x == k) refl (λ t. above_before xs i g (sorted_tail nat_cmp x xs rising) (omega (arith, less)) is k t) at
  where
    by : (b : Bool) → (x == k) ≡ b → (is_among k (take i xs) ≡ true → k < g) → (b || is_among k (take i xs)) ≡ true → k < g
    by true here later t =
        let first = below_from_sorted (x ∷ xs) 0 (suc i) g rising (omega arith) less in
        omega (arith, first, is, from_eq_true x k here)
    by false here later t = later t

-- the next of the groups that are listed is above those so far
pub above_so_far : (gs xs : List ℕ) (i : ℕ) → IsStrictlySortedBy nat_cmp gs → xs ≡ gs → i < length xs → (k : ℕ) → is_among k (take i xs) ≡ true → k < get_or xs i 0
above_so_far gs xs i rising is less =
    above_before xs i (get_or xs i 0) (subst (λ (l : List ℕ). IsStrictlySortedBy nat_cmp l) (sym is) rising) less (get_or_default xs i 0 (get_or xs i 0) less)

among_kept : (g h : ℕ) (gs : List ℕ) → (is_among h gs ≡ true) ⊎ (h ≡ g) → is_among h (gs ++ g ∷ []) ≡ true
among_kept g h gs known = list_any-append (λ k. k == h) gs (g ∷ []) ∙ by known
  where
    or_true : (a b : Bool) → b ≡ true → (a || b) ≡ true
    or_true true b h = refl
    or_true false b h = h

    by : (is_among h gs ≡ true) ⊎ (h ≡ g) → (is_among h gs || ((g == h) || false)) ≡ true
    by (inl at) = ap (λ (b : Bool). b || ((g == h) || false)) at
    by (inr same) = or_true (is_among h gs) ((g == h) || false) (ap (λ (b : Bool). b || false) (eq_true g h (sym same)))

no_look : (g h : ℕ) (v : State) (vs : List (ℕ × State)) → lookup (λ k. k == h) (vs ++ (g, v) ∷ []) ≡ None → (lookup (λ k. k == h) vs ≡ None) × ((g == h) ≡ false)
no_look g h v [] none = (refl, by (g == h) none)
  where
    by : (b : Bool) → cond b (Some v) None ≡ None → b ≡ false
    by true n = cc
    by false n = refl
no_look g h v (e ∷ vs) none = by (e.0 == h) (λ n. no_look g h v vs n) none
  where
    by : (b : Bool) → (lookup (λ k. k == h) (vs ++ (g, v) ∷ []) ≡ None → (lookup (λ k. k == h) vs ≡ None) × ((g == h) ≡ false))
        → cond b (Some e.1) (lookup (λ k. k == h) (vs ++ (g, v) ∷ [])) ≡ None → (cond b (Some e.1) (lookup (λ k. k == h) vs) ≡ None) × ((g == h) ≡ false)
    by true later n = absurd (let no : ⊥ = cc in no)
    by false later n = later n

hold_more : (m : LogMap) (g : ℕ) (v : State) (vs : List (ℕ × State)) → HoldEach m vs → HoldsVoter (m g) v → HoldEach m (vs ++ (g, v) ∷ [])
hold_more m g v [] h one = (one, tt)
hold_more m g v (e ∷ vs) h one = (h.0, hold_more m g v vs h.1 one)

-- of an engine behind reads
pub adds_voter_before : (s t : EngineState) (g : ℕ) (vs ws : List (ℕ × State)) → StaysButBlock s t → AddsVoter t g vs ws → AddsVoter s g vs ws
adds_voter_before s t g vs ws stays (inl (v, now, held)) = inl (v, now, told_before (λ m. HoldsVoter (m g) v) s t stays held)
adds_voter_before s t g vs ws stays (inr (now, void)) = inr (now, told_before (λ m. IsVoid (m g)) s t stays void)

pub no_voter : (s : EngineState) (gs : List ℕ) (vs : List (ℕ × State)) → gs ≡ [] → vs ≡ [] → VotersOf s gs vs
no_voter s gs vs none nothing = subst (λ (l : List ℕ). VotersOf s l vs) (sym none) (subst (λ (l : List (ℕ × State)). VotersOf s [] l) (sym nothing) (record {
  rising = sorted_from_strictly_increasing [] (λ k less. absurd (omega (arith, less)));
  inside = λ g at. at;
  held = λ home m h. tt;
  others = λ g at look. absurd (let no : ⊥ = cc in no);
}))

pub one_voter : (s : EngineState) (g : ℕ) (gs all : List ℕ) (vs ws : List (ℕ × State)) → VotersOf s gs vs → AddsVoter s g vs ws → all ≡ gs ++ g ∷ []
    → ((k : ℕ) → is_among k gs ≡ true → k < g) → VotersOf s all ws
one_voter s g gs all vs ws known added is below = subst (λ (l : List ℕ). VotersOf s l ws) (sym is) (by_case added)
  where
    by_case : AddsVoter s g vs ws → VotersOf s (gs ++ g ∷ []) ws
    by_case (inl (v, now, held)) = subst (λ (l : List (ℕ × State)). VotersOf s (gs ++ g ∷ []) l) (sym now) (record {
      rising = subst (λ (l : List ℕ). IsStrictlySortedBy nat_cmp l) (sym keys) (push_above (keys_of vs) g known.rising (λ k at. below k (known.inside k at)));
      inside = λ k at. among_kept g k gs (elim (among_more g k (keys_of vs) (sym (ap (is_among k) keys) ∙ at)) [
        | inl before ↦ inl (known.inside k before)
        | inr same ↦ inr same
      ]);
      held = λ home m h. hold_more m g v vs (known.held home m h) (held home m h);
      others = λ k at look.
          let apart = no_look g k v vs look in
          elim (among_more g k gs at) [
            | inl before ↦ known.others k before apart.0
            | inr same ↦ absurd (from_eq_false g k apart.1 (sym same))
          ];
    })
      where
        keys : keys_of (vs ++ (g, v) ∷ []) ≡ keys_of vs ++ g ∷ []
        keys = map-append (λ (e : ℕ × State). e.0) vs ((g, v) ∷ [])
    by_case (inr (now, void)) = subst (λ (l : List (ℕ × State)). VotersOf s (gs ++ g ∷ []) l) (sym now) (record {
      rising = known.rising;
      inside = λ k at. among_kept g k gs (inl (known.inside k at));
      held = known.held;
      others = λ k at look. elim (among_more g k gs at) [
        | inl before ↦ known.others k before look
        | inr same ↦ subst (λ (n : ℕ). Tells s (λ m. IsVoid (m n))) (sym same) void
      ];
    })

-- a listed group's voter is the one that it holds
looked_up : (m : LogMap) (g : ℕ) (vs : List (ℕ × State)) (v : State) → HoldEach m vs → lookup (λ k. k == g) vs ≡ Some v → HoldsVoter (m g) v
looked_up m g [] v h is = absurd (let no : ⊥ = cc in no)
looked_up m g (e ∷ vs) v h is = by (e.0 == g) refl (λ found. looked_up m g vs v h.1 found) is
  where
    by : (b : Bool) → (e.0 == g) ≡ b → (lookup (λ k. k == g) vs ≡ Some v → HoldsVoter (m g) v) → cond b (Some e.1) (lookup (λ k. k == g) vs) ≡ Some v → HoldsVoter (m g) v
    by true here later found =
        let same : e.1 ≡ v = cc in
        subst (λ (n : ℕ). HoldsVoter (m n) v) (from_eq_true e.0 g here) (subst (λ (w : State). HoldsVoter (m e.0) w) same h.0)
    by false here later found = later found

pub voters_read : (s : EngineState) (gs all : List ℕ) (vs : List (ℕ × State)) → IsBareWhereUncounted s → ListsGroups s.counts gs → all ≡ gs → VotersOf s all vs → ListsVoters s vs
voters_read s gs all vs bare listed whole known = record {
  rising = known.rising;
  stored = λ home m h. record {
    means = λ g. by_look home m h g (lookup (λ k. k == g) vs) refl;
    held = known.held home m h;
    others = λ g look. none_listed g look home m h;
  };
}
  where
    none_listed : (g : ℕ) → lookup (λ k. k == g) vs ≡ None → Tells s (λ m. IsVoid (m g))
    none_listed g look = elim (cases_Bool (is_among g all)) [
      | inl at ↦ known.others g at look
      | inr apart ↦
          let uncounted : s.counts g ≡ false = sym (listed.exact g) ∙ ap (is_among g) (sym whole) ∙ apart in
          uncounted_void s g (bare g uncounted)
    ]

    by_look : (home : LogDirectories) (m : LogMap) → Represents home s m [] → (g : ℕ) (o : Option State) → lookup (λ k. k == g) vs ≡ o → IsVoter (m g) (unwrap_or o fresh)
    by_look home m h g None look = inl (none_listed g look home m h, refl)
    by_look home m h g (Some v) look = inr (looked_up m g vs v (known.held home m h) look)
