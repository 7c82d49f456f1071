-- Keys that are listed in the order of a map.
use Rattle.std.proofs.Common.{◌≡◌, ◌+◌, ◌-◌, ◌^◌, ℕ, Bool, true, false, ◌&&◌, List, [], ◌∷◌, ◌++◌, map, reverse, length, Option, Some, None, is_some, option_map, if◌then◌else◌, bytes_eq, refl, sym, ap, subst, ◌∙◌, arith}
use Rattle.std.specs.Prelude.{min}
use Rattle.std.specs.Cmp.Lexicographic.{slice_cmp, nat_list_eq_equiv}
use Rattle.std.specs.List.{AllByRecursion}
use Rattle.std.specs.List.Sorted.{IsStrictlySortedBy}
use Rattle.std.specs.Map.{keys_of, lookup}
use Rattle.std.specs.Ordering.{is_eq, nat_cmp}
use Rattle.std.specs.declared.cmp.Ordering.TheVariants.{Less}
use Rattle.std.proofs.lemmas.List.{append-nil, reverse-append}
use Rattle.std.proofs.lemmas.Map.Text.{is_eq-slice_cmp}
use Rattle.std.proofs.lemmas.Slice.Eq.{bytes_eq-Decides}
use Rattle.raft_log_model_laws.proofs.Public.{at_bool}
use Rattle.raft_log_memtable_index.specs.Bridge.{AllOwed, bytes_held, without}
use Rattle.raft_log_memtable_index.specs.declared.key_map.KeySlot.{KeySlot}
use Rattle.raft_log_memtable_index.specs.Keys.{deleted_in, held_in, shown_value, slot_at}
use Rattle.raft_log_memtable_index.specs.Listing.{asked_bytes, bytes_within, is_below, is_from, AddsAll, CountsAll, ListsAll, ListsMarked, Visits}
use Rattle.raft_log_memtable_index.proofs.ByteKeys.{by_bytes}

-- the keys come after this one
abbrev pub AllAbove : {X : Type 0} → List ℕ → List (List ℕ × X) → Type 0
AllAbove k es = AllByRecursion (λ j. slice_cmp nat_cmp k j ≡ Less) (keys_of es)

-- a key below all of them is none of them
pub none_there : {X : Type 0} (k : List ℕ) (es : List (List ℕ × X)) → AllAbove k es → lookup (bytes_eq k) es ≡ None
none_there k [] h = refl
none_there k (e ∷ es) h =
    ap (λ b. if b then Some e.1 else lookup (bytes_eq k) es) (sym (is_eq-slice_cmp k e.0) ∙ ap is_eq h.0) ∙ none_there k es h.1

-- the keys of a map are sorted by their bytes
pub by_bytes_rise : {K X : Type 0} (items : K → List ℕ) (es : List (K × X)) → IsStrictlySortedBy (λ x y. slice_cmp nat_cmp (items x) (items y)) (keys_of es)
    → IsStrictlySortedBy (slice_cmp nat_cmp) (keys_of (by_bytes items es))
unfolding IsStrictlySortedBy
by_bytes_rise items [] h = h
by_bytes_rise {K} {X} items (e ∷ es) h = (above es h.0, by_bytes_rise items es h.1)
  where
    above : (xs : List (K × X)) → AllByRecursion (λ y. slice_cmp nat_cmp (items e.0) (items y) ≡ Less) (keys_of xs) → AllAbove (items e.0) (by_bytes items xs)
    above [] g = g
    above (x ∷ xs) g = (g.0, above xs g.1)

-- what a function has of each slot, in the order of the keys
abbrev pub with_found : {X : Type 0} → List ℕ → Option X → List (List ℕ × X) → List (List ℕ × X)
with_found k None es = es
with_found k (Some x) es = (k, x) ∷ es

abbrev pub listed : {X : Type 0} → (List ℕ → KeySlot → Option X) → List (List ℕ × KeySlot) → List (List ℕ × X)
listed f [] = []
listed f (e ∷ es) = with_found e.0 (f e.0 e.1) (listed f es)

-- what the function has of the slot of a key, if there is one
abbrev pub picked : {X : Type 0} → (KeySlot → Option X) → Option KeySlot → Option X
picked f None = None
picked f (Some s) = f s

abbrev or_else : {X : Type 0} → Option X → Option X → Option X
or_else None r = r
or_else (Some x) r = Some x

or_none : {X : Type 0} (o : Option X) → or_else o None ≡ o
or_none None = refl
or_none (Some x) = refl

module _ {X : Type 0} (f : List ℕ → KeySlot → Option X) where
  above_found : (k j : List ℕ) (o : Option X) (es : List (List ℕ × X)) → slice_cmp nat_cmp k j ≡ Less → AllAbove k es → AllAbove k (with_found j o es)
  above_found k j None es h g = g
  above_found k j (Some x) es h g = (h, g)

  above_listed : (k : List ℕ) (es : List (List ℕ × KeySlot)) → AllAbove k es → AllAbove k (listed f es)
  above_listed k [] h = h
  above_listed k (e ∷ es) h = above_found k e.0 (f e.0 e.1) (listed f es) h.0 (above_listed k es h.1)

  rise_found : (k : List ℕ) (o : Option X) (es : List (List ℕ × X)) → AllAbove k es → IsStrictlySortedBy (slice_cmp nat_cmp) (keys_of es)
      → IsStrictlySortedBy (slice_cmp nat_cmp) (keys_of (with_found k o es))
  unfolding IsStrictlySortedBy
  rise_found k None es h g = g
  rise_found k (Some x) es h g = (h, g)

  rise_listed : (es : List (List ℕ × KeySlot)) → IsStrictlySortedBy (slice_cmp nat_cmp) (keys_of es) → IsStrictlySortedBy (slice_cmp nat_cmp) (keys_of (listed f es))
  unfolding IsStrictlySortedBy
  rise_listed [] h = h
  rise_listed (e ∷ es) h = rise_found e.0 (f e.0 e.1) (listed f es) (above_listed e.0 es h.0) (rise_listed es h.1)

  lookup_found : (k j : List ℕ) (o : Option X) (es : List (List ℕ × X)) (b : Bool) → bytes_eq k j ≡ b
      → lookup (bytes_eq k) (with_found j o es) ≡ (if b then or_else o (lookup (bytes_eq k) es) else lookup (bytes_eq k) es)
  lookup_found k j None es true h = refl
  lookup_found k j None es false h = refl
  lookup_found k j (Some x) es true h = ap (λ b. if b then Some x else lookup (bytes_eq k) es) h
  lookup_found k j (Some x) es false h = ap (λ b. if b then Some x else lookup (bytes_eq k) es) h

  pub lookup_listed : (k : List ℕ) (es : List (List ℕ × KeySlot)) → IsStrictlySortedBy (slice_cmp nat_cmp) (keys_of es)
      → lookup (bytes_eq k) (listed f es) ≡ picked (f k) (slot_at es k)
  unfolding IsStrictlySortedBy
  lookup_listed k [] h = refl
  lookup_listed k (e ∷ es) h =
      at_bool (bytes_eq k e.0)
      (λ b. bytes_eq k e.0 ≡ b → lookup (bytes_eq k) (listed f (e ∷ es)) ≡ picked (f k) (if b then Some e.1 else slot_at es k))
      (λ t g. let same : k ≡ e.0 = (bytes_eq-Decides k e.0).0 g in
      lookup_found k e.0 (f e.0 e.1) (listed f es) true g
      ∙ ap (or_else (f e.0 e.1)) (none_there k (listed f es) (above_listed k es (subst (λ j. AllAbove j es) (sym same) h.0)))
      ∙ or_none (f e.0 e.1) ∙ ap (λ j. f j e.1) (sym same))
      (λ t g. lookup_found k e.0 (f e.0 e.1) (listed f es) false g ∙ lookup_listed k es h.1)
      refl

  pub lists_listed : (es : List (List ℕ × KeySlot)) (values : List ℕ → Option X) → IsStrictlySortedBy (slice_cmp nat_cmp) (keys_of es)
      → ((k : List ℕ) (o : Option KeySlot) → slot_at es k ≡ o → picked (f k) o ≡ values k) → ListsAll values (listed f es)
  lists_listed es values h same = record { rising = rise_listed es h; exact = λ k. lookup_listed k es h ∙ same k (slot_at es k) refl }

-- the keys of marked slots
abbrev pub with_marked : List ℕ → Bool → List (List ℕ) → List (List ℕ)
with_marked k true ks = k ∷ ks
with_marked k false ks = ks

abbrev pub marked_keys : List (List ℕ × KeySlot) → List (List ℕ)
marked_keys [] = []
marked_keys (e ∷ es) = with_marked e.0 e.1.deleted (marked_keys es)

above_marked : (k : List ℕ) (es : List (List ℕ × KeySlot)) → AllAbove k es → AllByRecursion (λ j. slice_cmp nat_cmp k j ≡ Less) (marked_keys es)
above_marked k [] h = h
above_marked k (e ∷ es) h = add e.1.deleted (above_marked k es h.1)
  where
    add : (b : Bool) → AllByRecursion (λ j. slice_cmp nat_cmp k j ≡ Less) (marked_keys es)
        → AllByRecursion (λ j. slice_cmp nat_cmp k j ≡ Less) (with_marked e.0 b (marked_keys es))
    add true g = (h.0, g)
    add false g = g

rise_marked : (es : List (List ℕ × KeySlot)) → IsStrictlySortedBy (slice_cmp nat_cmp) (keys_of es) → IsStrictlySortedBy (slice_cmp nat_cmp) (marked_keys es)
unfolding IsStrictlySortedBy
rise_marked [] h = h
rise_marked (e ∷ es) h = add e.1.deleted (above_marked e.0 es h.0) (rise_marked es h.1)
  where
    add : (b : Bool) → AllByRecursion (λ j. slice_cmp nat_cmp e.0 j ≡ Less) (marked_keys es) → IsStrictlySortedBy (slice_cmp nat_cmp) (marked_keys es)
        → IsStrictlySortedBy (slice_cmp nat_cmp) (with_marked e.0 b (marked_keys es))
    add true g t = (g, t)
    add false g t = t

-- the test without its first key is that of the other slots
rest_marked : (k : List ℕ) (s : KeySlot) (es : List (List ℕ × KeySlot)) (marked : List ℕ → Bool) → AllAbove k es
    → ((j : List ℕ) → marked j ≡ deleted_in (slot_at ((k, s) ∷ es) j))
    → (j : List ℕ) → (if bytes_eq k j then false else marked j) ≡ deleted_in (slot_at es j)
rest_marked k s es marked h same j =
    at_bool (bytes_eq k j) (λ b. bytes_eq k j ≡ b → (if b then false else marked j) ≡ deleted_in (slot_at es j))
    (λ t g. sym (ap deleted_in (none_there j es (subst (λ i. AllAbove i es) ((bytes_eq-Decides k j).0 g) h))))
    (λ t g. same j ∙ ap (λ b. deleted_in (if b then Some s else slot_at es j)) (flipped g))
    refl
  where
    flipped : bytes_eq k j ≡ false → bytes_eq j k ≡ false
    flipped g = nat_list_eq_equiv.symm j k ∙ g

-- a slot that isn't marked changes nothing
rest_unmarked : (k : List ℕ) (s : KeySlot) (es : List (List ℕ × KeySlot)) (marked : List ℕ → Bool) → AllAbove k es → s.deleted ≡ false
    → ((j : List ℕ) → marked j ≡ deleted_in (slot_at ((k, s) ∷ es) j)) → (j : List ℕ) → marked j ≡ deleted_in (slot_at es j)
rest_unmarked k s es marked h not same j =
    at_bool (bytes_eq j k) (λ b. bytes_eq j k ≡ b → marked j ≡ deleted_in (slot_at es j))
    (λ t g. same j ∙ ap (λ b. deleted_in (if b then Some s else slot_at es j)) g ∙ not
    ∙ sym (ap deleted_in (none_there j es (subst (λ i. AllAbove i es) (sym ((bytes_eq-Decides j k).0 g)) h))))
    (λ t g. same j ∙ ap (λ b. deleted_in (if b then Some s else slot_at es j)) g)
    refl

owed_marked : (es : List (List ℕ × KeySlot)) (marked : List ℕ → Bool) → IsStrictlySortedBy (slice_cmp nat_cmp) (keys_of es)
    → ((j : List ℕ) → marked j ≡ deleted_in (slot_at es j)) → AllOwed marked (marked_keys es) × ((j : List ℕ) → without marked (marked_keys es) j ≡ false)
unfolding IsStrictlySortedBy
owed_marked [] marked h same = (tt, same)
owed_marked (e ∷ es) marked h same =
    at_bool e.1.deleted
    (λ b. e.1.deleted ≡ b → AllOwed marked (with_marked e.0 b (marked_keys es)) × ((j : List ℕ) → without marked (with_marked e.0 b (marked_keys es)) j ≡ false))
    (λ t g. let rest = owed_marked es (λ j. if bytes_eq e.0 j then false else marked j) h.1 (rest_marked e.0 e.1 es marked h.0 same) in
    ((same e.0 ∙ ap (λ b. deleted_in (if b then Some e.1 else slot_at es e.0)) ((bytes_eq-Decides e.0 e.0).1 refl) ∙ g, rest.0), rest.1))
    (λ t g. owed_marked es marked h.1 (rest_unmarked e.0 e.1 es marked h.0 g same))
    refl

pub lists_marked : (es : List (List ℕ × KeySlot)) (marked : List ℕ → Bool) → IsStrictlySortedBy (slice_cmp nat_cmp) (keys_of es)
    → ((j : List ℕ) → marked j ≡ deleted_in (slot_at es j)) → ListsMarked marked (marked_keys es)
lists_marked es marked h same =
    let owed = owed_marked es marked h same in
    record { rising = rise_marked es h; owed = owed.0; all = owed.1 }

-- what is asked for of a slot
abbrev pub asked_in : Option ℕ → List ℕ → KeySlot → Option (List ℕ)
asked_in gate k s = asked_bytes gate (shown_value s.held)

-- all that is asked for
pub lists_asked : (gate : Option ℕ) (es : List (List ℕ × KeySlot)) → IsStrictlySortedBy (slice_cmp nat_cmp) (keys_of es)
    → ListsAll (λ k. asked_bytes gate (held_in (slot_at es k))) (listed (asked_in gate) es)
lists_asked gate es h = lists_listed (asked_in gate) es (λ k. asked_bytes gate (held_in (slot_at es k))) h (λ k o e. here o ∙ sym (ap (λ q. asked_bytes gate (held_in q)) e))
  where
    here : (o : Option KeySlot) → picked (asked_in gate []) o ≡ asked_bytes gate (held_in o)
    here None = refl
    here (Some s) = refl

-- how many are asked for of these slots
abbrev pub one_more_if : Option (List ℕ) → ℕ → ℕ
one_more_if None n = n
one_more_if (Some x) n = n + 1

abbrev pub asked_count : Option ℕ → List KeySlot → ℕ
asked_count gate [] = 0
asked_count gate (s ∷ ss) = one_more_if (asked_bytes gate (shown_value s.held)) (asked_count gate ss)

-- one of them is asked for
pub counted_one : {B : Type 0} (f : B → List ℕ) (gate : Option ℕ) (n all : ℕ) (s : KeySlot) (slots rest : List KeySlot) (o : Option B) → slots ≡ s ∷ rest
    → option_map f o ≡ asked_bytes gate (shown_value s.held) → is_some o ≡ true → n + asked_count gate slots ≡ all → (n + 1) + asked_count gate rest ≡ all
counted_one f gate n all s slots rest None is found some h = absurd (never some)
  where
    never : false ≡ true → ⊥
    never e = cc e
counted_one f gate n all s slots rest (Some x) is found some h =
    let one : asked_count gate slots ≡ asked_count gate rest + 1 = ap (asked_count gate) is ∙ ap (λ o. one_more_if o (asked_count gate rest)) (sym found) in
    omega (arith, one, h)

asked_length : (gate : Option ℕ) (es : List (List ℕ × KeySlot)) → length (listed (asked_in gate) es) ≡ asked_count gate (map (λ e. e.1) es)
asked_length gate [] = refl
asked_length gate (e ∷ es) = at_found (asked_in gate e.0 e.1) ∙ ap (one_more_if (asked_in gate e.0 e.1)) (asked_length gate es)
  where
    at_found : (o : Option (List ℕ)) → length (with_found e.0 o (listed (asked_in gate) es)) ≡ one_more_if o (length (listed (asked_in gate) es))
    at_found None = refl
    at_found (Some x) = let more : length ((e.0, x) ∷ listed (asked_in gate) es) ≡ length (listed (asked_in gate) es) + 1 = omega arith in more

module _ {K : Type 0} (items : K → List ℕ) (es : List (K × KeySlot)) (now : List (List ℕ × KeySlot)) (is : by_bytes items es ≡ now) where
  -- the keys of a map rise, also as contracts see it
  pub rises : IsStrictlySortedBy (λ x y. slice_cmp nat_cmp (items x) (items y)) (keys_of es) → IsStrictlySortedBy (slice_cmp nat_cmp) (keys_of now)
  rises h = subst (λ l. IsStrictlySortedBy (slice_cmp nat_cmp) (keys_of l)) is (by_bytes_rise items es h)

  -- where nothing is left, all is found
  pub all_asked : (gate : Option ℕ) (front old : List (List ℕ × List ℕ)) (rest : List (K × KeySlot)) → rest ≡ []
      → front ++ listed (asked_in gate) (by_bytes items rest) ≡ old ++ listed (asked_in gate) now
      → IsStrictlySortedBy (λ x y. slice_cmp nat_cmp (items x) (items y)) (keys_of es)
      → AddsAll (λ k. asked_bytes gate (held_in (slot_at now k))) old front
  all_asked gate front old rest none h o = (
    listed (asked_in gate) now,
    lists_asked gate now (rises o),
    sym (append-nil front) ∙ ap (λ l. front ++ listed (asked_in gate) (by_bytes items l)) (sym none) ∙ h,
  )

  -- and all of that is counted
  pub all_counted : (n count : ℕ) (rest : List KeySlot) → rest ≡ [] → count ≡ min n (2 ^ 64 - 1) → n + asked_count None rest ≡ asked_count None (map (λ e. e.1) now)
      → IsStrictlySortedBy (λ x y. slice_cmp nat_cmp (items x) (items y)) (keys_of es)
      → CountsAll (λ k. asked_bytes None (held_in (slot_at now k))) count
  all_counted n count rest none least h o = (
    listed (asked_in None) now,
    lists_asked None now (rises o),
    least ∙ ap (λ (m : ℕ). min m (2 ^ 64 - 1))
        ((let same : n ≡ n + asked_count None [] = omega arith in same) ∙ ap (λ (ss : List KeySlot). n + asked_count None ss) (sym none) ∙ h ∙ sym (asked_length None now)),
  )

  pub all_marked : (front : List (List ℕ)) (rest : List (K × KeySlot)) → rest ≡ []
      → front ++ marked_keys (by_bytes items rest) ≡ marked_keys (by_bytes items es)
      → IsStrictlySortedBy (λ x y. slice_cmp nat_cmp (items x) (items y)) (keys_of es)
      → ListsMarked (λ k. deleted_in (slot_at now k)) front
  all_marked front rest none h o =
      subst (ListsMarked (λ k. deleted_in (slot_at now k)))
      (sym (sym (append-nil front) ∙ ap (λ l. front ++ marked_keys (by_bytes items l)) (sym none) ∙ h ∙ ap marked_keys is))
      (lists_marked now (λ k. deleted_in (slot_at now k)) (rises o) (λ j. refl))

-- what of a slot lies within the two ends
abbrev pub within_in : Option (List ℕ) → Option (List ℕ) → List ℕ → KeySlot → Option (List ℕ)
within_in start end k s = bytes_within start end k (shown_value s.held)

pub lists_within : (start end : Option (List ℕ)) (es : List (List ℕ × KeySlot)) → IsStrictlySortedBy (slice_cmp nat_cmp) (keys_of es)
    → ListsAll (λ k. bytes_within start end k (held_in (slot_at es k))) (listed (within_in start end) es)
lists_within start end es h =
    lists_listed (within_in start end) es (λ k. bytes_within start end k (held_in (slot_at es k))) h
    (λ k o e. here k (is_from start k && is_below end k) o ∙ sym (ap (λ q. bytes_within start end k (held_in q)) e))
  where
    here : (k : List ℕ) (b : Bool) (o : Option KeySlot)
        → picked (λ (s : KeySlot). if b then bytes_held (shown_value s.held) else None) o ≡ (if b then bytes_held (held_in o) else None)
    here k true None = refl
    here k false None = refl
    here k b (Some s) = refl

module _ {F : Type 0} (called : F → List ℕ → List ℕ → Bool → F → Type 0) where
  -- one call more, after which others may come; and the last one
  pub visit_more : (f next : F) (k x : List ℕ) (o : Option (List ℕ)) (rest : List (List ℕ × List ℕ)) → o ≡ Some x → called f k x true next → Visits called next rest
      → Visits called f (with_found k o rest)
  visit_more f next k x o rest is call more = subst (λ p. Visits called f (with_found k p rest)) (sym is) (true, next, call, λ e. more)

  pub visit_last : (f next : F) (k x : List ℕ) (o : Option (List ℕ)) (rest : List (List ℕ × List ℕ)) → o ≡ Some x → called f k x false next
      → Visits called f (with_found k o rest)
  visit_last f next k x o rest is call =
      subst (λ p. Visits called f (with_found k p rest)) (sym is) (false, next, call, λ e. absurd (let never : ⊥ = cc in never))

  -- a slot that isn't within
  pub visit_none : (f : F) (k : List ℕ) (o : Option (List ℕ)) (rest : List (List ℕ × List ℕ)) → o ≡ None → Visits called f rest → Visits called f (with_found k o rest)
  visit_none f k o rest is more = subst (λ p. Visits called f (with_found k p rest)) (sym is) more

module _ {X : Type 0} (f : List ℕ → KeySlot → Option X) where
  found_push : (j : List ℕ) (o : Option X) (xs ys : List (List ℕ × X)) → with_found j o (xs ++ ys) ≡ with_found j o xs ++ ys
  found_push j None xs ys = refl
  found_push j (Some x) xs ys = refl

  push_last : (xs : List (List ℕ × KeySlot)) (k : List ℕ) (s : KeySlot) → listed f (xs ++ (k, s) ∷ []) ≡ listed f xs ++ with_found k (f k s) []
  push_last [] k s = refl
  push_last (x ∷ xs) k s =
      ap (with_found x.0 (f x.0 x.1)) (push_last xs k s) ∙ found_push x.0 (f x.0 x.1) (listed f xs) (with_found k (f k s) [])

  turn_last : (k : List ℕ) (o : Option X) (es : List (List ℕ × X)) → reverse (with_found k o []) ++ es ≡ with_found k o es
  turn_last k None es = refl
  turn_last k (Some x) es = refl

  -- the last slot comes first, backwards
  pub listed_last : (es : List (List ℕ × KeySlot)) (k : List ℕ) (s : KeySlot)
      → reverse (listed f (es ++ (k, s) ∷ [])) ≡ with_found k (f k s) (reverse (listed f es))
  listed_last es k s =
      ap reverse (push_last es k s) ∙ reverse-append (listed f es) (with_found k (f k s) []) ∙ turn_last k (f k s) (reverse (listed f es))

pub by_bytes_last : {K X : Type 0} (items : K → List ℕ) (es : List (K × X)) (e : K × X) → by_bytes items (es ++ e ∷ []) ≡ by_bytes items es ++ (items e.0, e.1) ∷ []
by_bytes_last items [] e = refl
by_bytes_last items (x ∷ es) e = ap (λ l. (items x.0, x.1) ∷ l) (by_bytes_last items es e)

module _ {F K : Type 0} (called : F → List ℕ → List ℕ → Bool → F → Type 0) (w : List ℕ → KeySlot → Option (List ℕ)) (items : K → List ℕ) where
  -- the calls that are still to come, forwards: none is, the next slot isn't within, and it is
  pub up_end : (f : F) (es : List (K × KeySlot)) → es ≡ [] → Visits called f (listed w (by_bytes items es))
  up_end f es none = subst (λ l. Visits called f (listed w (by_bytes items l))) (sym none) tt

  pub up_last : (f next : F) (k : K) (s : KeySlot) (x : List ℕ) (es rest : List (K × KeySlot)) → es ≡ (k, s) ∷ rest → w (items k) s ≡ Some x
      → called f (items k) x false next → Visits called f (listed w (by_bytes items es))
  up_last f next k s x es rest is found call =
      subst (λ l. Visits called f (listed w (by_bytes items l))) (sym is)
      (visit_last called f next (items k) x (w (items k) s) (listed w (by_bytes items rest)) found call)

  -- the same backwards
  pub down_end : (f : F) (es : List (K × KeySlot)) → es ≡ [] → Visits called f (reverse (listed w (by_bytes items es)))
  down_end f es none = subst (λ l. Visits called f (reverse (listed w (by_bytes items l)))) (sym none) tt

  turned : (k : K) (s : KeySlot) (es rest : List (K × KeySlot)) → es ≡ rest ++ (k, s) ∷ []
      → reverse (listed w (by_bytes items es)) ≡ with_found (items k) (w (items k) s) (reverse (listed w (by_bytes items rest)))
  turned k s es rest is =
      ap (λ l. reverse (listed w (by_bytes items l))) is ∙ ap (λ l. reverse (listed w l)) (by_bytes_last items rest (k, s))
      ∙ listed_last w (by_bytes items rest) (items k) s

  pub down_last : (f next : F) (k : K) (s : KeySlot) (x : List ℕ) (es rest : List (K × KeySlot)) → es ≡ rest ++ (k, s) ∷ [] → w (items k) s ≡ Some x
      → called f (items k) x false next → Visits called f (reverse (listed w (by_bytes items es)))
  down_last f next k s x es rest is found call =
      subst (Visits called f) (sym (turned k s es rest is))
      (visit_last called f next (items k) x (w (items k) s) (reverse (listed w (by_bytes items rest))) found call)

  pub down_more : (f next : F) (k : K) (s : KeySlot) (x : List ℕ) (es rest : List (K × KeySlot)) → es ≡ rest ++ (k, s) ∷ [] → w (items k) s ≡ Some x
      → called f (items k) x true next → Visits called next (reverse (listed w (by_bytes items rest))) → Visits called f (reverse (listed w (by_bytes items es)))
  down_more f next k s x es rest is found call more =
      subst (Visits called f) (sym (turned k s es rest is))
      (visit_more called f next (items k) x (w (items k) s) (reverse (listed w (by_bytes items rest))) found call more)

  pub down_none : (f : F) (k : K) (s : KeySlot) (es rest : List (K × KeySlot)) → es ≡ rest ++ (k, s) ∷ [] → w (items k) s ≡ None
      → Visits called f (reverse (listed w (by_bytes items rest))) → Visits called f (reverse (listed w (by_bytes items es)))
  down_none f k s es rest is found more =
      subst (Visits called f) (sym (turned k s es rest is)) (visit_none called f (items k) (w (items k) s) (reverse (listed w (by_bytes items rest))) found more)

module _ {K : Type 0} (items : K → List ℕ) (es : List (K × KeySlot)) (now : List (List ℕ × KeySlot)) (is : by_bytes items es ≡ now) where
  -- where nothing is left, all that lies within is found
  pub all_within : (start end : Option (List ℕ)) (front old : List (List ℕ × List ℕ)) (rest : List (K × KeySlot)) → rest ≡ []
      → front ++ listed (within_in start end) (by_bytes items rest) ≡ old ++ listed (within_in start end) now
      → IsStrictlySortedBy (λ x y. slice_cmp nat_cmp (items x) (items y)) (keys_of es)
      → AddsAll (λ k. bytes_within start end k (held_in (slot_at now k))) old front
  all_within start end front old rest none h o = (
    listed (within_in start end) now,
    lists_within start end now (rises items es now is o),
    sym (append-nil front) ∙ ap (λ l. front ++ listed (within_in start end) (by_bytes items l)) (sym none) ∙ h,
  )
