-- The slots that open groups are kept in.
use Rattle.std.proofs.Common.{◌≡◌, ◌==◌, ◌⊎◌, inl, inr, ℕ, zero, suc, ◌+◌, ◌<◌, take, is_some, false, List, [], ◌∷◌, ◌++◌, length, get_or, Option, Some, None, option_map, if◌then◌else◌, refl, sym, ap, subst, ◌∙◌, arith}
use Rattle.std.proofs.Math.ListN.{set}
use Rattle.std.proofs.lemmas.List.{take_more}
use Rattle.std.specs.BTreeMap.{get, is_at, BTreeMap}
use Rattle.std.specs.Map.{lookup}
use Rattle.std.specs.Ordering.{is_eq, nat_cmp}
use Rattle.raft_log_model_laws.proofs.Public.{at_bool, at_option, eq_false, eq_true, from_eq_false, from_eq_true, if_false, if_true}
use Rattle.raft_log_replay_context.specs.declared.part.GroupPart.{GroupPart}
use Rattle.raft_log_replay_context.specs.declared.open_groups.OpenGroup.{OpenGroup}
use Rattle.raft_log_replay_context.proofs.Fragments.{absent_parts}
use Rattle.raft_log_replay_context.specs.OpenGroups.{begun_at, begun_in, begun_of, number_at, with_part, without_begun, ArePlaced, Begun, IsSameInSlots}

abbrev pub Slots : Type 0
Slots = List (Option OpenGroup)

clash : {A : Type 0} {P : Type 0} (x : A) → None ≡ Some x → P
clash x h = let never : ⊥ = cc in absurd never

pub some_same : (x y : ℕ) → Some x ≡ Some y → x ≡ y
some_same x y h = cc

-- no group there has that number
abbrev pub IsNowhere : ℕ → Slots → Type 0
IsNowhere n ss = (i : ℕ) → number_at ss i ≡ Some n → ⊥

-- a group there that has that number is the one in that slot
abbrev pub IsAlone : ℕ → ℕ → Slots → Type 0
IsAlone n i ss = (j : ℕ) → number_at ss j ≡ Some n → j ≡ i

apart_head : (n : ℕ) (u : OpenGroup) → (u.number ≡ n → ⊥) → (u.number == n) ≡ false
apart_head n u h = eq_false u.number n h

pub nowhere_begun : (n : ℕ) (ss : Slots) → IsNowhere n ss → begun_at n (begun_in ss) ≡ None
nowhere_begun n [] h = refl
nowhere_begun n (None ∷ ss) h = nowhere_begun n ss (λ i e. h (suc i) e)
nowhere_begun n (Some u ∷ ss) h =
    if_false (u.number == n) (Some (begun_of u)) (begun_at n (begun_in ss)) (apart_head n u (λ e. h zero (ap Some e))) ∙ nowhere_begun n ss (λ i e. h (suc i) e)

pub nowhere_without : (n : ℕ) (ss : Slots) → IsNowhere n ss → without_begun n (begun_in ss) ≡ begun_in ss
nowhere_without n [] h = refl
nowhere_without n (None ∷ ss) h = nowhere_without n ss (λ i e. h (suc i) e)
nowhere_without n (Some u ∷ ss) h =
    if_false (u.number == n) (without_begun n (begun_in ss)) (begun_of u ∷ without_begun n (begun_in ss)) (apart_head n u (λ e. h zero (ap Some e)))
    ∙ ap (λ l. begun_of u ∷ l) (nowhere_without n ss (λ i e. h (suc i) e))

pub nowhere_with : (n : ℕ) (p : GroupPart) (ss : Slots) → IsNowhere n ss → with_part n p (begun_in ss) ≡ begun_in ss
nowhere_with n p [] h = refl
nowhere_with n p (None ∷ ss) h = nowhere_with n p ss (λ i e. h (suc i) e)
nowhere_with n p (Some u ∷ ss) h =
    ap (λ b. (if b then (u.number, u.parts.items ++ p ∷ []) else begun_of u) ∷ with_part n p (begun_in ss)) (apart_head n u (λ e. h zero (ap Some e)))
    ∙ ap (λ l. begun_of u ∷ l) (nowhere_with n p ss (λ i e. h (suc i) e))

-- behind the slot of the group of a number there is none of that number
behind_first : (n : ℕ) (x : Option OpenGroup) (ss : Slots) → IsAlone n zero (x ∷ ss) → IsNowhere n ss
behind_first n x ss h i e = absurd (let no : suc i ≡ 0 = h (suc i) e in omega (arith, no))

-- nor is the group in an earlier slot of that number
before_it : (n i : ℕ) (u : OpenGroup) (ss : Slots) → IsAlone n (suc i) (Some u ∷ ss) → u.number ≡ n → ⊥
before_it n i u ss h e = let no : 0 ≡ suc i = h zero (ap Some e) in absurd (omega (arith, no))

alone_behind : (n i : ℕ) (x : Option OpenGroup) (ss : Slots) → IsAlone n (suc i) (x ∷ ss) → IsAlone n i ss
alone_behind n i x ss h j e = let q : suc j ≡ suc i = h (suc j) e in omega (arith, q)

pub taken_at : (n i : ℕ) (ss : Slots) → number_at ss i ≡ Some n → IsAlone n i ss → begun_in (set ss i None) ≡ without_begun n (begun_in ss)
taken_at n i [] at h = clash n at
taken_at n zero (None ∷ ss) at h = clash n at
taken_at n zero (Some u ∷ ss) at h =
    sym (nowhere_without n ss (behind_first n (Some u) ss h))
    ∙ sym (if_true (u.number == n) (without_begun n (begun_in ss)) (begun_of u ∷ without_begun n (begun_in ss)) (eq_true u.number n (some_same u.number n at)))
taken_at n (suc i) (None ∷ ss) at h = taken_at n i ss at (alone_behind n i None ss h)
taken_at n (suc i) (Some u ∷ ss) at h =
    ap (λ l. begun_of u ∷ l) (taken_at n i ss at (alone_behind n i (Some u) ss h))
    ∙ sym (if_false (u.number == n) (without_begun n (begun_in ss)) (begun_of u ∷ without_begun n (begun_in ss)) (apart_head n u (before_it n i u ss h)))

pub found_at : (n i : ℕ) (ss : Slots) → number_at ss i ≡ Some n → IsAlone n i ss → option_map begun_of (get_or ss i None) ≡ begun_at n (begun_in ss)
found_at n i [] at h = clash n at
found_at n zero (None ∷ ss) at h = clash n at
found_at n zero (Some u ∷ ss) at h =
    sym (if_true (u.number == n) (Some (begun_of u)) (begun_at n (begun_in ss)) (eq_true u.number n (some_same u.number n at)))
found_at n (suc i) (None ∷ ss) at h = found_at n i ss at (alone_behind n i None ss h)
found_at n (suc i) (Some u ∷ ss) at h =
    found_at n i ss at (alone_behind n i (Some u) ss h)
    ∙ sym (if_false (u.number == n) (Some (begun_of u)) (begun_at n (begun_in ss)) (apart_head n u (before_it n i u ss h)))

-- the group in a slot has one more record
pub grown_at : (n i : ℕ) (p : GroupPart) (u w : OpenGroup) (ss : Slots) → get_or ss i None ≡ Some u → u.number ≡ n → begun_of w ≡ (u.number, u.parts.items ++ p ∷ [])
    → IsAlone n i ss → begun_in (set ss i (Some w)) ≡ with_part n p (begun_in ss)
grown_at n i p u w [] at is new h = clash u at
grown_at n zero p u w (None ∷ ss) at is new h = clash u at
grown_at n zero p u w (Some v ∷ ss) at is new h =
    let same : v ≡ u = cc in
    ap (λ (b : Begun). b ∷ begun_in ss) (new ∙ sym (ap (λ (x : OpenGroup). (x.number, x.parts.items ++ p ∷ [])) same))
    ∙ ap (λ l. (v.number, v.parts.items ++ p ∷ []) ∷ l) (sym (nowhere_with n p ss (behind_first n (Some v) ss h)))
    ∙ ap (λ b. (if b then (v.number, v.parts.items ++ p ∷ []) else begun_of v) ∷ with_part n p (begun_in ss))
    (sym (eq_true v.number n (ap (λ (x : OpenGroup). x.number) same ∙ is)))
grown_at n (suc i) p u w (None ∷ ss) at is new h = grown_at n i p u w ss at is new (alone_behind n i None ss h)
grown_at n (suc i) p u w (Some v ∷ ss) at is new h =
    ap (λ l. begun_of v ∷ l) (grown_at n i p u w ss at is new (alone_behind n i (Some v) ss h))
    ∙ ap (λ b. (if b then (v.number, v.parts.items ++ p ∷ []) else begun_of v) ∷ with_part n p (begun_in ss)) (sym (apart_head n v (before_it n i v ss h)))

-- a group behind the others
pub begun_push : (ss : Slots) (u : OpenGroup) → begun_in (ss ++ Some u ∷ []) ≡ begun_in ss ++ begun_of u ∷ []
begun_push [] u = refl
begun_push (None ∷ ss) u = begun_push ss u
begun_push (Some v ∷ ss) u = ap (λ l. begun_of v ∷ l) (begun_push ss u)

pub number_push : (ss : Slots) (u : OpenGroup) → number_at (ss ++ Some u ∷ []) (length ss) ≡ Some u.number
number_push [] u = refl
number_push (x ∷ ss) u = number_push ss u

pub number_kept : (ss : Slots) (u : OpenGroup) (i n : ℕ) → number_at ss i ≡ Some n → number_at (ss ++ Some u ∷ []) i ≡ Some n
number_kept [] u i n h = clash n h
number_kept (x ∷ ss) u zero n h = h
number_kept (x ∷ ss) u (suc i) n h = number_kept ss u i n h

pub number_new : (ss : Slots) (u : OpenGroup) (i n : ℕ) → number_at (ss ++ Some u ∷ []) i ≡ Some n → (number_at ss i ≡ Some n) ⊎ ((i ≡ length ss) × (u.number ≡ n))
number_new [] u zero n h = inr (refl, some_same u.number n h)
number_new [] u (suc i) n h = clash n h
number_new (x ∷ ss) u zero n h = inl h
number_new (x ∷ ss) u (suc i) n h = further (number_new ss u i n h)
  where
    further : (number_at ss i ≡ Some n) ⊎ ((i ≡ length ss) × (u.number ≡ n)) → (number_at ss i ≡ Some n) ⊎ ((suc i ≡ suc (length ss)) × (u.number ≡ n))
    further (inl e) = inl e
    further (inr e) = inr (ap suc e.0, e.1)

-- a slot with a group is one of them
pub number_within : (ss : Slots) (i n : ℕ) → number_at ss i ≡ Some n → i < length ss
number_within [] i n h = clash n h
number_within (x ∷ ss) zero n h = omega arith
number_within (x ∷ ss) (suc i) n h = let lt : i < length ss = number_within ss i n h in omega (arith, lt)

-- a slot is read the same whatever is taken past the last one
pub read_there : (ss : Slots) (i : ℕ) (x y : Option OpenGroup) → i < length ss → get_or ss i x ≡ get_or ss i y
read_there [] i x y lt = absurd (omega (arith, lt))
read_there (z ∷ ss) zero x y lt = refl
read_there (z ∷ ss) (suc i) x y lt = read_there ss i x y (omega (arith, lt))

-- what stands in the slots where one of them changes
pub number_other : (ss : Slots) (i j : ℕ) (x : Option OpenGroup) → (j ≡ i → ⊥) → number_at (set ss i x) j ≡ number_at ss j
number_other [] i j x h = refl
number_other (y ∷ ss) zero zero x h = absurd (h refl)
number_other (y ∷ ss) zero (suc j) x h = refl
number_other (y ∷ ss) (suc i) zero x h = refl
number_other (y ∷ ss) (suc i) (suc j) x h = number_other ss i j x (λ e. h (ap suc e))

pub number_set : (ss : Slots) (i : ℕ) (x : Option OpenGroup) → i < length ss → get_or (set ss i x) i None ≡ x
number_set [] i x lt = absurd (omega (arith, lt))
number_set (y ∷ ss) zero x lt = refl
number_set (y ∷ ss) (suc i) x lt = number_set ss i x (omega (arith, lt))

-- without a vacant slot at the end
pub begun_popped : (ss : Slots) → begun_in (ss ++ None ∷ []) ≡ begun_in ss
begun_popped [] = refl
begun_popped (None ∷ ss) = begun_popped ss
begun_popped (Some u ∷ ss) = ap (λ l. begun_of u ∷ l) (begun_popped ss)

pub read_popped : (ss : Slots) (i : ℕ) → get_or (ss ++ None ∷ []) i None ≡ get_or ss i None
read_popped [] zero = refl
read_popped [] (suc i) = refl
read_popped (x ∷ ss) zero = refl
read_popped (x ∷ ss) (suc i) = read_popped ss i

-- The slots by the groups' numbers.
abbrev Places : Type 0
Places = BTreeMap ℕ ℕ

pub nowhere_where_unknown : (ss : Slots) (m : Places) (n : ℕ) → ArePlaced ss m → get nat_cmp m n ≡ None → IsNowhere n ss
nowhere_where_unknown ss m n placed none i e = clash i (sym none ∙ placed.1 n i e)

pub alone_where_known : (ss : Slots) (m : Places) (n i : ℕ) → ArePlaced ss m → get nat_cmp m n ≡ Some i → IsAlone n i ss
alone_where_known ss m n i placed known j e = some_same j i (sym (placed.1 n j e) ∙ known)

-- the same groups in the same slots
pub placed_same : (ss ts : Slots) (m : Places) → ArePlaced ss m → ((i : ℕ) → number_at ts i ≡ number_at ss i) → ArePlaced ts m
placed_same ss ts m placed same = (λ n i e. same i ∙ placed.0 n i e, λ n i e. placed.1 n i (sym (same i) ∙ e))

-- two numbers that differ, as the map compares them
pub differ : (a b : ℕ) → (a == b) ≡ false → is_eq (nat_cmp a b) ≡ false
differ a b h = grind (arith, h)

-- a group's slot is vacant, and its number isn't known any more
pub placed_taken : (ss : Slots) (m l : Places) (n i : ℕ) → ArePlaced ss m → get nat_cmp m n ≡ Some i → get nat_cmp l n ≡ None
    → ((k : ℕ) → is_eq (nat_cmp n k) ≡ false → get nat_cmp l k ≡ get nat_cmp m k) → ArePlaced (set ss i None) l
placed_taken ss m l n i placed known gone others = (there, back)
  where
    lt : i < length ss
    lt = number_within ss i n (placed.0 n i known)

    there : (k j : ℕ) → get nat_cmp l k ≡ Some j → number_at (set ss i None) j ≡ Some k
    there k j e = at_bool (n == k) (λ _. number_at (set ss i None) j ≡ Some k)
        (λ same. clash j (sym gone ∙ ap (get nat_cmp l) (from_eq_true n k same) ∙ e))
        (λ apart.
        let kept = placed.0 k j (sym (others k (differ n k apart)) ∙ e) in
        number_other ss i j None (λ q. from_eq_false n k apart (some_same n k (sym (placed.0 n i known) ∙ ap (number_at ss) (sym q) ∙ kept))) ∙ kept)

    back : (k j : ℕ) → number_at (set ss i None) j ≡ Some k → get nat_cmp l k ≡ Some j
    back k j e = at_bool (j == i) (λ _. get nat_cmp l k ≡ Some j)
        (λ same. clash k (sym (ap (λ (x : Option OpenGroup). option_map (λ (u : OpenGroup). u.number) x) (number_set ss i None lt))
        ∙ ap (number_at (set ss i None)) (sym (from_eq_true j i same)) ∙ e))
        (λ apart.
        let stood = sym (number_other ss i j None (from_eq_false j i apart)) ∙ e in
        let known_k = placed.1 k j stood in
        others k (differ n k (eq_false n k (λ q. from_eq_false j i apart (some_same j i (sym known_k ∙ ap (get nat_cmp m) (sym q) ∙ known))))) ∙ known_k)

-- one more group behind the others, of a number that wasn't known
pub placed_pushed : (ss : Slots) (m l : Places) (u : OpenGroup) → ArePlaced ss m → get nat_cmp m u.number ≡ None → get nat_cmp l u.number ≡ Some (length ss)
    → ((k : ℕ) → is_eq (nat_cmp u.number k) ≡ false → get nat_cmp l k ≡ get nat_cmp m k) → ArePlaced (ss ++ Some u ∷ []) l
placed_pushed ss m l u placed none known others = (there, back)
  where
    there : (k j : ℕ) → get nat_cmp l k ≡ Some j → number_at (ss ++ Some u ∷ []) j ≡ Some k
    there k j e = at_bool (u.number == k) (λ _. number_at (ss ++ Some u ∷ []) j ≡ Some k)
        (λ same.
        let is = sym (from_eq_true u.number k same) in
        let last : j ≡ length ss = some_same j (length ss) (sym e ∙ ap (get nat_cmp l) is ∙ known) in
        ap (number_at (ss ++ Some u ∷ [])) last ∙ number_push ss u ∙ ap Some (sym is))
        (λ apart. number_kept ss u j k (placed.0 k j (sym (others k (differ u.number k apart)) ∙ e)))

    turned : (k j : ℕ) → (number_at ss j ≡ Some k) ⊎ ((j ≡ length ss) × (u.number ≡ k)) → get nat_cmp l k ≡ Some j
    turned k j (inl e) =
        others k (differ u.number k (eq_false u.number k (λ q. clash {P = ⊥} j (sym none ∙ ap (get nat_cmp m) q ∙ placed.1 k j e)))) ∙ placed.1 k j e
    turned k j (inr e) = ap (get nat_cmp l) (sym e.1) ∙ known ∙ ap Some (sym e.0)

    back : (k j : ℕ) → number_at (ss ++ Some u ∷ []) j ≡ Some k → get nat_cmp l k ≡ Some j
    back k j e = turned k j (number_new ss u j k e)

-- before the group comes, its slot isn't there: the number alone leads to it
pub same_in_slots : (ss ts : Slots) → ((i : ℕ) → get_or ts i None ≡ get_or ss i None) → (i : ℕ) → number_at ts i ≡ number_at ss i
same_in_slots ss ts same i = ap (option_map (λ (u : OpenGroup). u.number)) (same i)

-- the numbers in a map of the same entries
pub placed_entries : (ss : Slots) (m l : Places) → l.entries ≡ m.entries → ArePlaced ss m → ArePlaced ss l
placed_entries ss m l same placed = (
  λ n i e. placed.0 n i (ap (lookup (is_at (nat_cmp n))) (sym same) ∙ e),
  λ n i e. ap (lookup (is_at (nat_cmp n))) same ∙ placed.1 n i e,
)

-- a group that isn't there isn't known
pub begun_none : (n : ℕ) (ss : Slots) → begun_at n (begun_in ss) ≡ None → IsNowhere n ss
begun_none n [] h i e = clash n e
begun_none n (None ∷ ss) h zero e = clash n e
begun_none n (None ∷ ss) h (suc i) e = begun_none n ss h i e
begun_none n (Some u ∷ ss) h zero e =
    from_eq_false u.number n (absent_parts (u.number == n) (begun_of u) (begun_at n (begun_in ss)) h).0 (some_same u.number n e)
begun_none n (Some u ∷ ss) h (suc i) e = begun_none n ss (absent_parts (u.number == n) (begun_of u) (begun_at n (begun_in ss)) h).1 i e

pub unknown_where_nowhere : (ss : Slots) (m : Places) (n : ℕ) → ArePlaced ss m → IsNowhere n ss → get nat_cmp m n ≡ None
unknown_where_nowhere ss m n placed nowhere =
    at_option (get nat_cmp m n) (λ _. get nat_cmp m n ≡ None) (λ e. e) (λ i e. absurd (nowhere i (placed.0 n i e)))

pub gone_at : (n : ℕ) (us : List Begun) → begun_at n (without_begun n us) ≡ None
gone_at n [] = refl
gone_at n (u ∷ us) =
    at_bool (u.0 == n) (λ b. begun_at n (if b then without_begun n us else u ∷ without_begun n us) ≡ None)
    (λ _. gone_at n us)
    (λ e. if_false (u.0 == n) (Some u) (begun_at n (without_begun n us)) e ∙ gone_at n us)

-- without vacant slots at the end
pub whole_slots : (ss : Slots) → take (length ss) ss ≡ ss
whole_slots [] = refl
whole_slots (x ∷ ss) = ap (λ (l : Slots). x ∷ l) (whole_slots ss)

pub same_whole : (ss : Slots) (n : ℕ) → n ≡ length ss → IsSameInSlots ss (take n ss)
same_whole ss n is = subst (λ (l : Slots). IsSameInSlots ss l) (sym (ap (λ k. take k ss) is ∙ whole_slots ss)) (refl, λ i. refl)

none_of : (x : Option OpenGroup) → is_some x ≡ false → x ≡ None
none_of None h = refl
none_of (Some u) h = let never : ⊥ = cc in absurd never

pub same_shorter : (ss : Slots) (k : ℕ) (x : Option OpenGroup) → k < length ss → x ≡ get_or ss k x → is_some x ≡ false
    → IsSameInSlots ss (take (k + 1) ss) → IsSameInSlots ss (take k ss)
same_shorter ss k x lt is none same =
    let step : take (k + 1) ss ≡ take k ss ++ None ∷ [] = take_more ss k x lt ∙ ap (λ (y : Option OpenGroup). take k ss ++ y ∷ []) (sym is ∙ none_of x none) in (
      sym (begun_popped (take k ss)) ∙ ap begun_in (sym step) ∙ same.0,
      λ i. sym (read_popped (take k ss) i) ∙ ap (λ (l : Slots). get_or l i None) (sym step) ∙ same.1 i,
    )
