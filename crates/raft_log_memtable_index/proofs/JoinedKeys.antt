-- Later slots come over earlier keys one after another: what is known then of each key.
use Rattle.std.proofs.Common.{◌≡◌, ℕ, Bool, true, false, ◌||◌, ◌⊎◌, List, [], ◌∷◌, map, Option, Some, None, is_some, if◌then◌else◌, bytes_eq, refl, sym, ap, ap₂, subst, ◌∙◌, inl, inr}
use Rattle.std.specs.Option.{option_or}
use Rattle.std.specs.List.{AllByRecursion, IsDistinct}
use Rattle.std.specs.Ordering.{is_eq, nat_cmp, eq_by_cmp}
use Rattle.std.specs.Cmp.Lexicographic.{slice_cmp, nat_list_eq_equiv}
use Rattle.std.proofs.lemmas.Map.Text.{is_eq-slice_cmp}
use Rattle.std.proofs.lemmas.Slice.Eq.{bytes_eq-Decides}
use Rattle.std.proofs.Math.Path.{fun_ext}
use Rattle.raft_log_model_laws.proofs.Public.{at_bool, if_false, if_true}
use Rattle.raft_log_memtable_index.specs.Shown.{KeyValue}
use Rattle.raft_log_memtable_index.specs.declared.key_map.KeySlot.{KeySlot}
use Rattle.raft_log_memtable_index.specs.declared.key_map.HeldValue.{HeldValue}
use Rattle.raft_log_memtable_index.specs.Keys.{KeysHaveRoom, Keys, deleted_in, held_in, joined_keys, keys_of, shown_value, slot_at, with_later, with_mark, with_slot, with_slots}
use Rattle.raft_log_memtable_index.proofs.ByteKeys.{by_bytes}

turned : (bs cs : List ℕ) → bytes_eq bs cs ≡ bytes_eq cs bs
turned bs cs = nat_list_eq_equiv.symm bs cs

-- the value that a later slot leaves of an earlier one
abbrev over : Option KeySlot → Option KeyValue → Option KeyValue
over o v = option_or (held_in o) (if deleted_in o then None else v)

module _ (ks : Keys) (k q : List ℕ) where
  value_by : (b d : Bool) (h : Option HeldValue) → bytes_eq k q ≡ b
      → (with_later (if d then with_mark ks k else ks) k h).values q ≡ (if b then option_or (shown_value h) (if d then None else ks.values q) else ks.values q)
  value_by true true None e = if_true (bytes_eq k q) None (ks.values q) e
  value_by false true None e = if_false (bytes_eq k q) None (ks.values q) e
  value_by true true (Some h) e = if_true (bytes_eq k q) _ _ e
  value_by false true (Some h) e = if_false (bytes_eq k q) _ _ e ∙ if_false (bytes_eq k q) _ _ e
  value_by true false None e = refl
  value_by false false None e = refl
  value_by true false (Some h) e = if_true (bytes_eq k q) _ _ e
  value_by false false (Some h) e = if_false (bytes_eq k q) _ _ e

  mark_by : (b d : Bool) (h : Option HeldValue) → bytes_eq k q ≡ b
      → (with_later (if d then with_mark ks k else ks) k h).deleted q ≡ (if b then d || ks.deleted q else ks.deleted q)
  mark_by true true None e = if_true (bytes_eq k q) _ _ e
  mark_by false true None e = if_false (bytes_eq k q) _ _ e
  mark_by true true (Some h) e = if_true (bytes_eq k q) _ _ e
  mark_by false true (Some h) e = if_false (bytes_eq k q) _ _ e
  mark_by true false None e = refl
  mark_by false false None e = refl
  mark_by true false (Some h) e = refl
  mark_by false false (Some h) e = refl

pub same_room : (ks : Keys) (k : List ℕ) (s : KeySlot) → (with_slot ks k s).has ≡ ks.has
same_room ks k s = by_parts s.deleted s.held
  where
    by_parts : (d : Bool) (h : Option HeldValue) → (with_later (if d then with_mark ks k else ks) k h).has ≡ ks.has
    by_parts true None = refl
    by_parts true (Some h) = refl
    by_parts false None = refl
    by_parts false (Some h) = refl

-- no key comes twice
abbrev pub AllOnce : List (List ℕ × KeySlot) → Type 0
AllOnce [] = Unit {0}
AllOnce (e ∷ es) = (slot_at es e.0 ≡ None) × AllOnce es

values_over : (ks : Keys) (es : List (List ℕ × KeySlot)) (q : List ℕ) → AllOnce es → (with_slots ks es).values q ≡ over (slot_at es q) (ks.values q)
values_over ks [] q h = refl
values_over ks (e ∷ es) q h =
    values_over (with_slot ks e.0 e.1) es q h.1
    ∙ at_bool (bytes_eq q e.0) (λ b. bytes_eq q e.0 ≡ b
    → over (slot_at es q) ((with_slot ks e.0 e.1).values q) ≡ over (if b then Some e.1 else slot_at es q) (ks.values q))
    (λ _ here. ap₂ over (ap (slot_at es) ((bytes_eq-Decides q e.0).0 here) ∙ h.0) (value_by ks e.0 q true e.1.deleted e.1.held (turned e.0 q ∙ here)))
    (λ _ far. ap (over (slot_at es q)) (value_by ks e.0 q false e.1.deleted e.1.held (turned e.0 q ∙ far))) refl

marks_over : (ks : Keys) (es : List (List ℕ × KeySlot)) (q : List ℕ) → AllOnce es → (with_slots ks es).deleted q ≡ (deleted_in (slot_at es q) || ks.deleted q)
marks_over ks [] q h = refl
marks_over ks (e ∷ es) q h =
    marks_over (with_slot ks e.0 e.1) es q h.1
    ∙ at_bool (bytes_eq q e.0) (λ b. bytes_eq q e.0 ≡ b
    → (deleted_in (slot_at es q) || (with_slot ks e.0 e.1).deleted q) ≡ (deleted_in (if b then Some e.1 else slot_at es q) || ks.deleted q))
    (λ _ here. ap₂ (λ o b. deleted_in o || b) (ap (slot_at es) ((bytes_eq-Decides q e.0).0 here) ∙ h.0) (mark_by ks e.0 q true e.1.deleted e.1.held (turned e.0 q ∙ here)))
    (λ _ far. ap (λ b. deleted_in (slot_at es q) || b) (mark_by ks e.0 q false e.1.deleted e.1.held (turned e.0 q ∙ far))) refl

room_over : (ks : Keys) (es : List (List ℕ × KeySlot)) → (with_slots ks es).has ≡ ks.has
room_over ks [] = refl
room_over ks (e ∷ es) = room_over (with_slot ks e.0 e.1) es ∙ same_room ks e.0 e.1

-- all later slots make the joined keys
pub slots_join : (ks : Keys) (es : List (List ℕ × KeySlot)) → AllOnce es → with_slots ks es ≡ joined_keys ks (keys_of es)
slots_join ks es h =
    ap₂ (λ v d. record { values = v; deleted = d; has = (with_slots ks es).has }) (fun_ext (λ q. values_over ks es q h)) (fun_ext (λ q. marks_over ks es q h))
    ∙ ap (λ b. record (joined_keys ks (keys_of es)) { has = b }) (room_over ks es)

module _ {K : Type 0} (items : K → List ℕ) where
  none_later : (cs : List ℕ) (es : List (K × KeySlot)) → AllByRecursion (λ y. is_eq (slice_cmp nat_cmp cs (items y)) ≡ false) (map (λ e. e.0) es) → slot_at (by_bytes items es) cs ≡ None
  none_later cs [] h = refl
  none_later cs (e ∷ es) h = if_false (bytes_eq cs (items e.0)) _ _ (sym (is_eq-slice_cmp cs (items e.0)) ∙ h.0) ∙ none_later cs es h.1

  -- keys in order come once
  pub once_each : (es : List (K × KeySlot)) → IsDistinct (eq_by_cmp (λ x y. slice_cmp nat_cmp (items x) (items y))) (map (λ e. e.0) es) → AllOnce (by_bytes items es)
  unfolding IsDistinct
  once_each [] h = tt
  once_each (e ∷ es) h = (none_later (items e.0) es h.0, once_each es h.1)

  -- the key is among them
  abbrev pub has_key : List K → List ℕ → Bool
  has_key [] k = false
  has_key (x ∷ xs) k = bytes_eq k (items x) || has_key xs k

  pub has_slot_key : (es : List (K × KeySlot)) (k : List ℕ) → is_some (slot_at (by_bytes items es) k) ≡ has_key (map (λ e. e.0) es) k
  has_slot_key [] k = refl
  has_slot_key (e ∷ es) k = some_if (bytes_eq k (items e.0)) e.1 (slot_at (by_bytes items es) k) ∙ ap (λ b. bytes_eq k (items e.0) || b) (has_slot_key es k)
    where
      some_if : (b : Bool) (s : KeySlot) (o : Option KeySlot) → is_some (if b then Some s else o) ≡ (b || is_some o)
      some_if true s o = refl
      some_if false s o = refl

  -- each key has room or is still to come
  abbrev pub RoomOrLeft : (List ℕ → Bool) → (List ℕ → Bool) → List K → Type 0
  RoomOrLeft later has rest = (k : List ℕ) → later k ≡ true → (has k ≡ true) ⊎ (has_key rest k ≡ true)

  pub one_room_more : (later has new : List ℕ → Bool) (x : K) (rest : List K) → new ≡ (λ k. if bytes_eq (items x) k then true else has k)
      → RoomOrLeft later has (x ∷ rest) → RoomOrLeft later new rest
  one_room_more later has new x rest e h k is = elim (h k is) [
    | inl there ↦ inl (ap (λ f. f k) e ∙ kept (bytes_eq (items x) k) there)
    | inr left ↦ by_test (bytes_eq k (items x)) refl left
  ]
    where
      kept : (b : Bool) → has k ≡ true → (if b then true else has k) ≡ true
      kept true there = refl
      kept false there = there

      by_test : (b : Bool) → bytes_eq k (items x) ≡ b → (b || has_key rest k) ≡ true → (new k ≡ true) ⊎ (has_key rest k ≡ true)
      by_test true e' left = inl (ap (λ f. f k) e ∙ if_true (bytes_eq (items x) k) true (has k) (turned (items x) k ∙ e'))
      by_test false e' left = inr left

  pub none_left : (later has : List ℕ → Bool) (rest : List K) → rest ≡ [] → RoomOrLeft later has rest → (k : List ℕ) → later k ≡ true → has k ≡ true
  none_left later has rest e h k is = elim (h k is) [
    | inl there ↦ there
    | inr left ↦ absurd (let clash : false ≡ true = sym (ap (λ l. has_key l k) e) ∙ left in let never : ⊥ = cc in never)
  ]

-- keys that are among those that have room have it
pub all_room : (has : List ℕ → Bool) (es : List (List ℕ × KeySlot)) → ((k : List ℕ) → is_some (slot_at es k) ≡ true → has k ≡ true) → KeysHaveRoom has es
all_room has [] h = tt
all_room has (e ∷ es) h = (
  h e.0 (ap is_some (if_true (bytes_eq e.0 e.0) (Some e.1) (slot_at es e.0) ((bytes_eq-Decides e.0 e.0).1 refl))),
  all_room has es (λ k is. h k (some_if (bytes_eq k e.0) k is)),
)
  where
    some_if : (b : Bool) (k : List ℕ) → is_some (slot_at es k) ≡ true → is_some (if b then Some e.1 else slot_at es k) ≡ true
    some_if true k is = refl
    some_if false k is = is

pub room_stays : (old new : Keys) (k : List ℕ) (s : KeySlot) (es : List (List ℕ × KeySlot)) → new ≡ with_slot old k s → KeysHaveRoom old.has es → KeysHaveRoom new.has es
room_stays old new k s es e h = subst (λ has. KeysHaveRoom has es) (sym (ap (λ ks. ks.has) e ∙ same_room old k s)) h
