-- The pieces of atomic groups with one more record behind the others, and where two segments are joined.
use Rattle.std.proofs.Common.{◌≡◌, ◌⊎◌, ℕ, ◌==◌, Bool, true, false, if◌then◌else◌, List, [], ◌∷◌, ◌++◌, Option, Some, None, unwrap_or, refl, sym, ap, ap₂, subst, ◌∙◌, inl, inr, append_assoc, append-nil}
use Rattle.std.specs.Bool.{⊤}
use Rattle.raft_log_model_laws.specs.Item.{Tagged, Record}
use Rattle.raft_log_model_laws.specs.Item.Record.{Plain, Part}
use Rattle.raft_log_model_laws.specs.Item.Mark.{Begin, Middle, End}
use Rattle.raft_log_model_laws.specs.Groups.{Open, none_open, onto, counts, opens, opened}
use Rattle.raft_log_model_laws.specs.Fragments.{Head, head, then_head, Unfinished, without, more, next_unfinished, unfinished_after, unfinished, finish, go_on, completed, carried_on}
use Rattle.raft_log_model_laws.specs.Fragments.Head.{GoesOn, Ends, BeginsAnew}
use Rattle.raft_log_model_laws.proofs.Public.{at_bool, eq_false, eq_true, from_eq_false, from_eq_true, head_append, if_false, if_true, open_after, open_in}

pub absent_parts : {A : Type 0} (b : Bool) (x : A) (v : Option A) → (if b then Some x else v) ≡ None → (b ≡ false) × (v ≡ None)
absent_parts true x v h = let never : ⊥ = cc in absurd never
absent_parts false x v h = (refl, h)

none_either : {A : Type 0} (b : Bool) (v : Option A) → v ≡ None → (if b then None else v) ≡ None
none_either true v h = refl
none_either false v h = h

turned : (n k : ℕ) → (n == k) ≡ false → (k == n) ≡ false
turned n k h = eq_false k n (λ e. from_eq_false n k h (sym e))

clash : {A : Type 0} {P : Type 0} (o : Option A) (x : A) → o ≡ None → o ≡ Some x → P
clash o x h k = let never : ⊥ = cc in absurd never

module _ {E V : Type 0} where
  -- One more record.
  pub unfinished_more : (us : List (Unfinished E V)) (rs : List (Record E V)) (r : Record E V)
      → unfinished_after us (rs ++ r ∷ []) ≡ next_unfinished (unfinished_after us rs) r
  unfinished_more us [] r = refl
  unfinished_more us (q ∷ rs) r = unfinished_more (next_unfinished us q) rs r

  open_next : (us : List (Unfinished E V)) (r : Record E V) (k : ℕ) → open_in (next_unfinished us r) k ≡ opens (open_in us) r k
  open_next us r k = open_after us (r ∷ []) k

  pub then_nothing : (h : Head E V) → then_head h (GoesOn []) ≡ h
  then_nothing (GoesOn xs) = ap GoesOn (append-nil xs)
  then_nothing (Ends xs) = refl
  then_nothing BeginsAnew = refl

  -- A segment knows what becomes of a group that is open before it, where it leaves one of its number open.
  abbrev pub IsKnown : Head E V → Type 0
  IsKnown h = (k : Head E V) → then_head h k ≡ h

  abbrev KnownOrOpen : Head E V → Option (List (Tagged E V)) → Type 0
  KnownOrOpen h o = IsKnown h ⊎ ((z : List (Tagged E V)) × (o ≡ Some z))

  done_case : (b : Bool) (d h : Head E V) (s v : Option (List (Tagged E V))) → IsKnown d → KnownOrOpen h (if b then s else v) → KnownOrOpen (if b then d else h) v
  done_case true d h s v known p = inl known
  done_case false d h s v known p = p

  from_onto : (h : Head E V) (v : Option (List (Tagged E V))) (ys : List (Tagged E V)) → KnownOrOpen h (onto v ys) → KnownOrOpen h v
  from_onto h None ys p = p
  from_onto h (Some x) ys p = inr (x, refl)

  middle_case : (b : Bool) (h i : Head E V) (w v : Option (List (Tagged E V))) (ys : List (Tagged E V)) → (b ≡ true → w ≡ v)
      → KnownOrOpen h (if b then onto w ys else v) → KnownOrOpen i (if b then onto w ys else v) → KnownOrOpen (if b then h else i) v
  middle_case true h i w v ys same p q = subst (λ o. KnownOrOpen h o) (same refl) (from_onto h w ys p)
  middle_case false h i w v ys same p q = q

  known_or_open : (n : ℕ) (xs : List (Tagged E V)) (o : Open E V) (rs : List (Record E V)) (y : List (Tagged E V)) → opened o rs n ≡ Some y
      → KnownOrOpen (head n xs rs) (o n)
  known_or_open n xs o [] y h = inr (y, h)
  known_or_open n xs o (Plain ys ∷ rs) y h = known_or_open n xs o rs y h
  known_or_open n xs o (Part (Begin k) ys ∷ rs) y h =
      done_case (k == n) BeginsAnew (head n xs rs) (Some ys) (o n) (λ j. refl) (known_or_open n xs (opens o (Part (Begin k) ys)) rs y h)
  known_or_open n xs o (Part (Middle k) ys ∷ rs) y h =
      middle_case (k == n) (head n (xs ++ ys) rs) (head n xs rs) (o k) (o n) ys (λ e. ap o (from_eq_true k n e))
      (known_or_open n (xs ++ ys) (opens o (Part (Middle k) ys)) rs y h) (known_or_open n xs (opens o (Part (Middle k) ys)) rs y h)
  known_or_open n xs o (Part (End k) ys ∷ rs) y h =
      done_case (k == n) (Ends (xs ++ ys)) (head n xs rs) None (o n) (λ j. refl) (known_or_open n xs (opens o (Part (End k) ys)) rs y h)

  only_known : (h : Head E V) → KnownOrOpen h None → IsKnown h
  only_known h (inl k) = k
  only_known h (inr (z, e)) = let never : ⊥ = cc in absurd never

  pub known_where_open : (rs : List (Record E V)) (n : ℕ) (y : List (Tagged E V)) → open_in (unfinished rs) n ≡ Some y → IsKnown (head n [] rs)
  known_where_open rs n y h = only_known (head n [] rs) (known_or_open n [] (open_in []) rs y (sym (open_after [] rs n) ∙ h))

  -- No two open groups have one number.
  abbrev pub AreDistinct : List (Unfinished E V) → Type 0
  AreDistinct [] = ⊤
  AreDistinct (u ∷ us) = (open_in us u.number ≡ None) × AreDistinct us

  absent_without : (n k : ℕ) (us : List (Unfinished E V)) → open_in us k ≡ None → open_in (without n us) k ≡ None
  absent_without n k us h = open_next us (Part (End n) []) k ∙ none_either (n == k) (open_in us k) h

  gone_without : (n : ℕ) (us : List (Unfinished E V)) → open_in (without n us) n ≡ None
  gone_without n us = open_next us (Part (End n) []) n ∙ if_true (n == n) None (open_in us n) (eq_true n n refl)

  onto_absent : (b : Bool) (w v : Option (List (Tagged E V))) (ys : List (Tagged E V)) → (b ≡ true → w ≡ v) → v ≡ None → (if b then onto w ys else v) ≡ None
  onto_absent true w v ys same h = ap (λ o. onto o ys) (same refl ∙ h)
  onto_absent false w v ys same h = h

  absent_more : (n k : ℕ) (ys : List (Tagged E V)) (us : List (Unfinished E V)) → open_in us k ≡ None → open_in (more n ys us) k ≡ None
  absent_more n k ys us h =
      open_next us (Part (Middle n) ys) k ∙ onto_absent (n == k) (open_in us n) (open_in us k) ys (λ e. ap (open_in us) (from_eq_true n k e)) h

  distinct_without : (n : ℕ) (us : List (Unfinished E V)) → AreDistinct us → AreDistinct (without n us)
  distinct_without n [] d = tt
  distinct_without n (u ∷ us) d =
      at_bool (u.number == n) (λ b. AreDistinct (if b then without n us else u ∷ without n us))
      (λ _. distinct_without n us d.1) (λ _. (absent_without n u.number us d.0, distinct_without n us d.1))

  distinct_more : (n : ℕ) (ys : List (Tagged E V)) (us : List (Unfinished E V)) → AreDistinct us → AreDistinct (more n ys us)
  distinct_more n ys [] d = tt
  distinct_more n ys (u ∷ us) d = (absent_more n u.number ys us d.0, distinct_more n ys us d.1)

  absent_push : (us : List (Unfinished E V)) (v : Unfinished E V) (k : ℕ) → open_in us k ≡ None → (v.number == k) ≡ false → open_in (us ++ v ∷ []) k ≡ None
  absent_push [] v k h apart = if_false (v.number == k) (Some v.items) None apart
  absent_push (u ∷ us) v k h apart =
      let parts = absent_parts (u.number == k) u.items (open_in us k) h in
      if_false (u.number == k) (Some u.items) (open_in (us ++ v ∷ []) k) parts.0 ∙ absent_push us v k parts.1 apart

  pub distinct_push : (us : List (Unfinished E V)) (v : Unfinished E V) → AreDistinct us → open_in us v.number ≡ None → AreDistinct (us ++ v ∷ [])
  distinct_push [] v d h = (refl, tt)
  distinct_push (u ∷ us) v d h =
      let parts = absent_parts (u.number == v.number) u.items (open_in us v.number) h in
      (absent_push us v u.number d.0 (turned u.number v.number parts.0), distinct_push us v d.1 parts.1)

  distinct_next : (us : List (Unfinished E V)) (r : Record E V) → AreDistinct us → AreDistinct (next_unfinished us r)
  distinct_next us (Plain xs) d = d
  distinct_next us (Part (Begin n) xs) d =
      distinct_push (without n us) (record { number = n; items = xs }) (distinct_without n us d) (gone_without n us)
  distinct_next us (Part (Middle n) xs) d = distinct_more n xs us d
  distinct_next us (Part (End n) xs) d = distinct_without n us d

  distinct_after : (us : List (Unfinished E V)) (rs : List (Record E V)) → AreDistinct us → AreDistinct (unfinished_after us rs)
  distinct_after us [] d = d
  distinct_after us (r ∷ rs) d = distinct_after (next_unfinished us r) rs (distinct_next us r d)

  pub distinct : (rs : List (Record E V)) → AreDistinct (unfinished rs)
  distinct rs = distinct_after [] rs tt

  -- The group of a number among the open ones.
  apart_at : (v : Unfinished E V) (front : List (Unfinished E V)) (u : Unfinished E V) (back : List (Unfinished E V)) → AreDistinct (v ∷ (front ++ u ∷ back))
      → open_in (front ++ u ∷ back) u.number ≡ Some u.items → (v.number == u.number) ≡ false
  apart_at v front u back d there =
      eq_false v.number u.number (λ e. clash (open_in (front ++ u ∷ back) v.number) u.items d.0 (ap (open_in (front ++ u ∷ back)) e ∙ there))

  pub open_at : (front : List (Unfinished E V)) (u : Unfinished E V) (back : List (Unfinished E V)) → AreDistinct (front ++ u ∷ back)
      → open_in (front ++ u ∷ back) u.number ≡ Some u.items
  open_at [] u back d = if_true (u.number == u.number) (Some u.items) (open_in back u.number) (eq_true u.number u.number refl)
  open_at (v ∷ front) u back d =
      let there = open_at front u back d.1 in
      if_false (v.number == u.number) (Some v.items) (open_in (front ++ u ∷ back) u.number) (apart_at v front u back d there) ∙ there

  -- the group with more items, if it is the one
  abbrev pub grown : Bool → List (Tagged E V) → Unfinished E V → Unfinished E V
  grown b ys u = record { number = u.number; items = if b then u.items ++ ys else u.items }

  pub more_none : (n : ℕ) (ys : List (Tagged E V)) (us : List (Unfinished E V)) → open_in us n ≡ None → more n ys us ≡ us
  more_none n ys [] h = refl
  more_none n ys (u ∷ us) h =
      let parts = absent_parts (u.number == n) u.items (open_in us n) h in
      ap₂ (λ b l. grown b ys u ∷ l) parts.0 (more_none n ys us parts.1)

  -- Heads with one more record.
  at_number : (b : Bool) (h d : Head E V) → (if b then then_head h d else h) ≡ then_head h (if b then d else GoesOn [])
  at_number true h d = refl
  at_number false h d = sym (then_nothing h)

  pub head_begins : (n k : ℕ) (ys : List (Tagged E V)) (h : Head E V) (rs : List (Record E V)) → h ≡ head n [] rs
      → (if k == n then then_head h BeginsAnew else h) ≡ head n [] (rs ++ Part (Begin k) ys ∷ [])
  head_begins n k ys h rs e =
      at_number (k == n) h BeginsAnew ∙ ap (λ i. then_head i (if k == n then BeginsAnew else GoesOn [])) e ∙ sym (head_append n [] rs (Part (Begin k) ys ∷ []))

  pub head_goes_on : (n k : ℕ) (ys : List (Tagged E V)) (h : Head E V) (rs : List (Record E V)) → h ≡ head n [] rs
      → (if k == n then then_head h (GoesOn ys) else h) ≡ head n [] (rs ++ Part (Middle k) ys ∷ [])
  head_goes_on n k ys h rs e =
      at_number (k == n) h (GoesOn ys) ∙ ap (λ i. then_head i (if k == n then GoesOn ys else GoesOn [])) e ∙ sym (head_append n [] rs (Part (Middle k) ys ∷ []))

  pub head_ends : (n k : ℕ) (ys : List (Tagged E V)) (h : Head E V) (rs : List (Record E V)) → h ≡ head n [] rs
      → (if k == n then then_head h (Ends ys) else h) ≡ head n [] (rs ++ Part (End k) ys ∷ [])
  head_ends n k ys h rs e =
      at_number (k == n) h (Ends ys) ∙ ap (λ i. then_head i (if k == n then Ends ys else GoesOn [])) e ∙ sym (head_append n [] rs (Part (End k) ys ∷ []))

  known_at : (b : Bool) (h d : Head E V) → (b ≡ true → IsKnown h) → h ≡ then_head h (if b then d else GoesOn [])
  known_at true h d known = sym (known refl d)
  known_at false h d known = sym (then_nothing h)

  at_same : (rs : List (Record E V)) (k n : ℕ) → IsKnown (head k [] rs) → (k == n) ≡ true → IsKnown (head n [] rs)
  at_same rs k n known e = subst (λ m. IsKnown (head m [] rs)) (from_eq_true k n e) known

  pub head_stays_on : (n k : ℕ) (ys : List (Tagged E V)) (rs : List (Record E V)) → IsKnown (head k [] rs)
      → head n [] rs ≡ head n [] (rs ++ Part (Middle k) ys ∷ [])
  head_stays_on n k ys rs known = known_at (k == n) (head n [] rs) (GoesOn ys) (at_same rs k n known) ∙ sym (head_append n [] rs (Part (Middle k) ys ∷ []))

  pub head_stays_ended : (n k : ℕ) (ys : List (Tagged E V)) (rs : List (Record E V)) → IsKnown (head k [] rs)
      → head n [] rs ≡ head n [] (rs ++ Part (End k) ys ∷ [])
  head_stays_ended n k ys rs known = known_at (k == n) (head n [] rs) (Ends ys) (at_same rs k n known) ∙ sym (head_append n [] rs (Part (End k) ys ∷ []))

  -- What counts at an end.
  pub counts_at_end : (rs : List (Record E V)) (n : ℕ) (ys : List (Tagged E V))
      → counts (opened none_open rs) (Part (End n) ys) ≡ unwrap_or (onto (open_in (unfinished rs) n) ys) []
  counts_at_end rs n ys = ap (λ o. unwrap_or (onto o ys) []) (sym (open_from rs n))
    where
      open_from : (qs : List (Record E V)) (k : ℕ) → open_in (unfinished qs) k ≡ opened none_open qs k
      open_from qs k = open_after [] qs k

  -- Two segments, group after group of those that the first leaves open.
  pub completed_more : (us : List (Unfinished E V)) (u : Unfinished E V) (h : ℕ → Head E V) → completed (us ++ u ∷ []) h ≡ completed us h ++ finish u.items (h u.number)
  completed_more [] u h = append-nil (finish u.items (h u.number))
  completed_more (v ∷ us) u h =
      ap (λ l. finish v.items (h v.number) ++ l) (completed_more us u h) ∙ sym (append_assoc (finish v.items (h v.number)) (completed us h) (finish u.items (h u.number)))

  pub carried_more : (us : List (Unfinished E V)) (u : Unfinished E V) (h : ℕ → Head E V) → carried_on (us ++ u ∷ []) h ≡ carried_on us h ++ go_on u.number u.items (h u.number)
  carried_more [] u h = append-nil (go_on u.number u.items (h u.number))
  carried_more (v ∷ us) u h =
      ap (λ l. go_on v.number v.items (h v.number) ++ l) (carried_more us u h)
      ∙ sym (append_assoc (go_on v.number v.items (h v.number)) (carried_on us h) (go_on u.number u.items (h u.number)))

  pub absent_before : (front : List (Unfinished E V)) (u : Unfinished E V) (back : List (Unfinished E V)) → AreDistinct (front ++ u ∷ back) → open_in front u.number ≡ None
  absent_before [] u back d = refl
  absent_before (v ∷ front) u back d =
      if_false (v.number == u.number) (Some v.items) (open_in front u.number) (apart_at v front u back d (open_at front u back d.1)) ∙ absent_before front u back d.1
