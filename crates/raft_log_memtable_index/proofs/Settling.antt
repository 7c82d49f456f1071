-- What is kept of the keys once their marks were carried, and once their values went.
use Rattle.std.proofs.Common.{◌≡◌, ℕ, Bool, true, false, List, [], ◌∷◌, length, Option, Some, None, is_some, cond, bytes_eq, IsTrue, ◌↔◌, refl, sym, ap, arith, ◌∙◌}
use Rattle.std.specs.Cmp.Lexicographic.{slice_cmp}
use Rattle.std.specs.List.Sorted.{IsStrictlySortedBy}
use Rattle.std.specs.Map.{keys_of as map_keys, lookup}
use Rattle.std.specs.Map.Calls.{RetainsPairs}
use Rattle.std.specs.Ordering.{nat_cmp}
use Rattle.std.proofs.lemmas.Slice.Eq.{bytes_eq-Decides}
use Rattle.std.proofs.Math.Path.{fun_ext}
use Rattle.raft_log_memtable_index.specs.declared.key_map.KeySlot.{KeySlot}
use Rattle.raft_log_memtable_index.specs.declared.key_map.HeldValue.{HeldValue}
use Rattle.raft_log_memtable_index.specs.Keys.{cleared_keys, deleted_in, held_in, keys_of, no_keys, settled_keys, shown_value, slot_at}
use Rattle.raft_log_memtable_index.proofs.ByteKeys.{by_bytes}
use Rattle.raft_log_memtable_index.proofs.Listing.{listed, lookup_listed, picked, with_found}

-- the slot of a key with this value, if it has one
abbrev pub settled_with : Option HeldValue → Option KeySlot
settled_with None = None
settled_with (Some h) = Some (record { held = Some h; deleted = false })

-- what is kept of a slot
abbrev pub settled_slot : List ℕ → KeySlot → Option KeySlot
settled_slot k s = settled_with s.held

module _ {F K : Type 0} (T : F → K → KeySlot → Bool → KeySlot → F → Type 0) (items : K → List ℕ) where
  -- what a call at each slot leaves, which answers whether it has a value
  settled_pairs : ((f : F) (k : K) (s : KeySlot) (b : Bool) (w : KeySlot) (g : F) → T f k s b w g → (b ≡ is_some s.held) × (w ≡ record s { deleted = false }))
      → (f : F) (es kept : List (K × KeySlot)) → RetainsPairs T f es kept → by_bytes items kept ≡ listed settled_slot (by_bytes items es)
  settled_pairs told f [] kept r = ap (by_bytes items) r
  settled_pairs told f (e ∷ es) kept r =
      let a = told f e.0 e.1 r.0 r.1 r.2 r.4 in
      ap (by_bytes items) (r.6 ∙ ap (λ b. cond b ((e.0, r.1) ∷ r.3) r.3) a.0 ∙ ap (λ w. cond (is_some e.1.held) ((e.0, w) ∷ r.3) r.3) a.1)
      ∙ one e.1.held (settled_pairs told r.2 es r.3 r.5)
    where
      one : (o : Option HeldValue) → by_bytes items r.3 ≡ listed settled_slot (by_bytes items es)
          → by_bytes items (cond (is_some o) ((e.0, record { held = o; deleted = false }) ∷ r.3) r.3) ≡ with_found (items e.0) (settled_with o) (listed settled_slot (by_bytes items es))
      one None h = h
      one (Some x) h = ap (λ l. (items e.0, record { held = Some x; deleted = false }) ∷ l) h

  -- no key is marked, and those that have a value are kept
  pub settle_keys : ((f : F) (k : K) (s : KeySlot) (b : Bool) (w : KeySlot) (g : F) → T f k s b w g → (b ≡ is_some s.held) × (w ≡ record s { deleted = false }))
      → (f : F) (es kept : List (K × KeySlot)) (now : List (List ℕ × KeySlot)) → by_bytes items es ≡ now → IsStrictlySortedBy (slice_cmp nat_cmp) (map_keys now)
      → RetainsPairs T f es kept → keys_of (by_bytes items kept) ≡ settled_keys (keys_of now)
  settle_keys told f es kept now is rising r =
      let same : (k : List ℕ) → slot_at (by_bytes items kept) k ≡ picked (settled_slot k) (slot_at now k) =
      λ k. ap (lookup (bytes_eq k)) (settled_pairs told f es kept r ∙ ap (listed settled_slot) is) ∙ lookup_listed settled_slot k now rising in
      λ i. record {
        values = fun_ext (λ k. ap held_in (same k) ∙ value k (slot_at now k)) i;
        deleted = fun_ext (λ k. ap deleted_in (same k) ∙ mark k (slot_at now k)) i;
        has = fun_ext (λ k. ap is_some (same k) ∙ kept_if k (slot_at now k)) i;
      }
    where
      held_with : (o : Option HeldValue) → held_in (settled_with o) ≡ shown_value o
      held_with None = refl
      held_with (Some h) = refl

      value : (k : List ℕ) (o : Option KeySlot) → held_in (picked (settled_slot k) o) ≡ held_in o
      value k None = refl
      value k (Some s) = held_with s.held

      mark_with : (o : Option HeldValue) → deleted_in (settled_with o) ≡ false
      mark_with None = refl
      mark_with (Some h) = refl

      mark : (k : List ℕ) (o : Option KeySlot) → deleted_in (picked (settled_slot k) o) ≡ false
      mark k None = refl
      mark k (Some s) = mark_with s.held

      kept_with : (o : Option HeldValue) → is_some (settled_with o) ≡ is_some (shown_value o)
      kept_with None = refl
      kept_with (Some h) = refl

      kept_if : (k : List ℕ) (o : Option KeySlot) → is_some (picked (settled_slot k) o) ≡ is_some (held_in o)
      kept_if k None = refl
      kept_if k (Some s) = kept_with s.held

-- the slot of a key that is marked, without a value
abbrev pub cleared_with : Bool → Option KeySlot
cleared_with false = None
cleared_with true = Some (record { held = None; deleted = true })

-- what is kept of a slot whose value went
abbrev pub cleared_slot : List ℕ → KeySlot → Option KeySlot
cleared_slot k s = cleared_with s.deleted

module _ {F K : Type 0} (T : F → K → KeySlot → Bool → KeySlot → F → Type 0) (items : K → List ℕ) where
  -- what a call at each slot leaves, which answers whether it is marked
  cleared_pairs : ((f : F) (k : K) (s : KeySlot) (b : Bool) (w : KeySlot) (g : F) → T f k s b w g → (b ≡ s.deleted) × (w ≡ record s { held = None }))
      → (f : F) (es kept : List (K × KeySlot)) → RetainsPairs T f es kept → by_bytes items kept ≡ listed cleared_slot (by_bytes items es)
  cleared_pairs told f [] kept r = ap (by_bytes items) r
  cleared_pairs told f (e ∷ es) kept r =
      let a = told f e.0 e.1 r.0 r.1 r.2 r.4 in
      ap (by_bytes items) (r.6 ∙ ap (λ b. cond b ((e.0, r.1) ∷ r.3) r.3) a.0 ∙ ap (λ w. cond e.1.deleted ((e.0, w) ∷ r.3) r.3) a.1)
      ∙ one e.1.deleted (cleared_pairs told r.2 es r.3 r.5)
    where
      one : (d : Bool) → by_bytes items r.3 ≡ listed cleared_slot (by_bytes items es)
          → by_bytes items (cond d ((e.0, record { held = None; deleted = d }) ∷ r.3) r.3) ≡ with_found (items e.0) (cleared_with d) (listed cleared_slot (by_bytes items es))
      one false h = h
      one true h = ap (λ l. (items e.0, record { held = None; deleted = true }) ∷ l) h

  -- no key has a value, and those that are marked are kept
  pub clear_keys : ((f : F) (k : K) (s : KeySlot) (b : Bool) (w : KeySlot) (g : F) → T f k s b w g → (b ≡ s.deleted) × (w ≡ record s { held = None }))
      → (f : F) (es kept : List (K × KeySlot)) (now : List (List ℕ × KeySlot)) → by_bytes items es ≡ now → IsStrictlySortedBy (slice_cmp nat_cmp) (map_keys now)
      → RetainsPairs T f es kept → keys_of (by_bytes items kept) ≡ cleared_keys (keys_of now)
  clear_keys told f es kept now is rising r =
      let same : (k : List ℕ) → slot_at (by_bytes items kept) k ≡ picked (cleared_slot k) (slot_at now k) =
      λ k. ap (lookup (bytes_eq k)) (cleared_pairs told f es kept r ∙ ap (listed cleared_slot) is) ∙ lookup_listed cleared_slot k now rising in
      λ i. record {
        values = fun_ext (λ k. ap held_in (same k) ∙ value k (slot_at now k)) i;
        deleted = fun_ext (λ k. ap deleted_in (same k) ∙ mark k (slot_at now k)) i;
        has = fun_ext (λ k. ap is_some (same k) ∙ kept_if k (slot_at now k)) i;
      }
    where
      no_value : (d : Bool) → held_in (cleared_with d) ≡ None
      no_value false = refl
      no_value true = refl

      value : (k : List ℕ) (o : Option KeySlot) → held_in (picked (cleared_slot k) o) ≡ None
      value k None = refl
      value k (Some s) = no_value s.deleted

      mark_with : (d : Bool) → deleted_in (cleared_with d) ≡ d
      mark_with false = refl
      mark_with true = refl

      mark : (k : List ℕ) (o : Option KeySlot) → deleted_in (picked (cleared_slot k) o) ≡ deleted_in o
      mark k None = refl
      mark k (Some s) = mark_with s.deleted

      kept_with : (d : Bool) → is_some (cleared_with d) ≡ d
      kept_with false = refl
      kept_with true = refl

      kept_if : (k : List ℕ) (o : Option KeySlot) → is_some (picked (cleared_slot k) o) ≡ deleted_in o
      kept_if k None = refl
      kept_if k (Some s) = kept_with s.deleted

-- without slots nothing is known of a key, and none has room; and only then
pub known_none : (slots : List (List ℕ × KeySlot)) → keys_of slots ≡ no_keys → slots ≡ []
known_none [] h = refl
known_none (e ∷ es) h = absurd (let clash : true ≡ false = sym (here (bytes_eq e.0 e.0) ((bytes_eq-Decides e.0 e.0).1 refl)) ∙ ap (λ ks. ks.has e.0) h in let never : ⊥ = cc in never)
  where
    here : (b : Bool) → b ≡ true → is_some (cond b (Some e.1) (slot_at es e.0)) ≡ true
    here true t = refl
    here false t = absurd (let clash : false ≡ true = t in let never : ⊥ = cc in never)

module _ {K : Type 0} (items : K → List ℕ) where
  none_by_bytes : (es : List (K × KeySlot)) → length es ≡ 0 → by_bytes items es ≡ []
  none_by_bytes [] h = refl
  none_by_bytes (e ∷ es) h = absurd (omega (arith, h))

  no_entries : (es : List (K × KeySlot)) → by_bytes items es ≡ [] → length es ≡ 0
  no_entries [] h = refl
  no_entries (e ∷ es) h = let none : length (by_bytes items (e ∷ es)) ≡ 0 = ap length h in absurd (omega (arith, none))

  pub empty_keys_known : (es : List (K × KeySlot)) (now : List (List ℕ × KeySlot)) (b : Bool) → by_bytes items es ≡ now → IsTrue b ↔ (length es ≡ 0)
      → IsTrue b ↔ (keys_of now ≡ no_keys)
  empty_keys_known es now b is h = (
    λ t. ap keys_of (sym is ∙ none_by_bytes es (h.0 t)),
    λ k. h.1 (no_entries es (known_none (by_bytes items es) (ap keys_of is ∙ k))),
  )
