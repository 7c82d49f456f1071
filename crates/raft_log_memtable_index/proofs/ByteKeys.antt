-- Maps by keys of bytes, told by the bytes alone.
use Rattle.std.proofs.Common.{◌≡◌, ℕ, Bool, true, false, List, [], ◌∷◌, map, Option, Some, None, option_map, is_some, if◌then◌else◌, bytes_eq, refl, sym, ap, ap₂, ◌∙◌}
use Rattle.std.specs.Map.{lookup, KeepsOthers, IsKeyTest, AreApart}
use Rattle.std.specs.BTreeMap as tree
use Rattle.std.specs.BTreeMap.{BTreeMap, is_at}
use Rattle.std.specs.Ordering.{is_eq, nat_cmp, eq_by_cmp}
use Rattle.std.specs.Cmp.{eq_by_cmp_equiv}
use Rattle.std.specs.Cmp.Lexicographic.{slice_cmp, nat_list_cmp_total, nat_list_eq_equiv}
use Rattle.std.proofs.lemmas.Map.Text.{is_eq-slice_cmp}
use Rattle.std.proofs.lemmas.Slice.Eq.{bytes_eq-Decides}
use Rattle.std.proofs.Math.Path.{fun_ext}
use Rattle.raft_log_model_laws.proofs.Public.{at_bool}
use Rattle.raft_log_memtable_index.specs.Shown.{KeyValue}
use Rattle.raft_log_memtable_index.specs.Bridge.{rewritten_value}
use Rattle.raft_log_memtable_index.specs.declared.key_map.KeySlot.{KeySlot}
use Rattle.raft_log_memtable_index.specs.declared.key_map.HeldValue.{HeldValue}
use Rattle.raft_log_memtable_index.specs.Keys.{held_in, deleted_in, emptied, rewritten_held, shown_value, slot_at, keys_of, unmarked_keys, with_mark, with_room, with_value}

-- a key whose bytes are others is not found where these are
apart : (bs cs ks : List ℕ) → bytes_eq bs cs ≡ false → is_eq (slice_cmp nat_cmp bs ks) ≡ true → is_eq (slice_cmp nat_cmp cs ks) ≡ false
apart bs cs ks n y =
    is_eq-slice_cmp cs ks ∙ nat_list_eq_equiv.symm cs ks ∙ sym (nat_list_eq_equiv.congr bs ks cs (sym (is_eq-slice_cmp bs ks) ∙ y)) ∙ n

others : {K X : Type 0} (eq : K → K → Bool) (test : K → Bool) (old new : List (K × X)) → KeepsOthers eq test old new → (other : K → Bool) → IsKeyTest eq other
    → AreApart test other → lookup other new ≡ lookup other old
unfolding KeepsOthers
others eq test old new h = h

module _ {K X : Type 0} (items : K → List ℕ) where
  -- the entries by the bytes of their keys
  abbrev pub by_bytes : List (K × X) → List (List ℕ × X)
  by_bytes es = map (λ e. (items e.0, e.1)) es

  -- a look-up by bytes is one by the order of the bytes
  pub found : (cs : List ℕ) (es : List (K × X)) → lookup (bytes_eq cs) (by_bytes es) ≡ lookup (is_at (λ k. slice_cmp nat_cmp cs (items k))) es
  found cs [] = refl
  found cs (e ∷ es) =
      ap₂ (λ b o. if b then Some e.1 else o) (sym (is_eq-slice_cmp cs (items e.0))) (found cs es)

  -- what a change at these bytes leaves at any bytes
  pub updated : (bs : List ℕ) (m n : BTreeMap K X) (w : Option X)
      → tree.UpdatesBy (λ x y. slice_cmp nat_cmp (items x) (items y)) (λ k. slice_cmp nat_cmp bs (items k)) m n w
      → (cs : List ℕ) → lookup (bytes_eq cs) (by_bytes n.entries) ≡ (if bytes_eq bs cs then w else lookup (bytes_eq cs) (by_bytes m.entries))
  updated bs m n w h cs =
      at_bool (bytes_eq bs cs) (λ b. bytes_eq bs cs ≡ b → lookup (bytes_eq cs) (by_bytes n.entries) ≡ (if b then w else lookup (bytes_eq cs) (by_bytes m.entries)))
      (λ e k. found cs n.entries ∙ ap (λ l. lookup (is_at (λ k. slice_cmp nat_cmp l (items k))) n.entries) (sym ((bytes_eq-Decides bs cs).0 k)) ∙ h.1)
      (λ e k. found cs n.entries
      ∙ others (eq_by_cmp (λ x y. slice_cmp nat_cmp (items x) (items y))) (is_at (λ k. slice_cmp nat_cmp bs (items k))) m.entries n.entries h.3
      (is_at (λ k. slice_cmp nat_cmp cs (items k)))
      (λ x y. (eq_by_cmp_equiv nat_list_cmp_total).congr cs (items x) (items y)) (λ q. apart bs cs (items q) k)
      ∙ sym (found cs m.entries))
      refl

-- What is known of keys after one slot changed.
by_key : {A : Type 0} (f : Option KeySlot → A) (bs : List ℕ) (w : Option KeySlot) (old new : List ℕ → Option KeySlot)
    → ((cs : List ℕ) → new cs ≡ (if bytes_eq bs cs then w else old cs))
    → ◌≡◌ {A = List ℕ → A} (λ cs. f (new cs)) (λ cs. if bytes_eq bs cs then f w else f (old cs))
by_key f bs w old new h = fun_ext (λ cs. ap f (h cs) ∙ moved (bytes_eq bs cs) cs)
  where
    moved : (b : Bool) (cs : List ℕ) → f (if b then w else old cs) ≡ (if b then f w else f (old cs))
    moved true cs = refl
    moved false cs = refl

-- the same where that is what was there
pub as_before : {A : Type 0} (bs : List ℕ) (a : A) (old : List ℕ → A) → a ≡ old bs → ◌≡◌ {A = List ℕ → A} (λ cs. if bytes_eq bs cs then a else old cs) old
as_before bs a old h = fun_ext (λ cs. at_bool (bytes_eq bs cs) (λ b. bytes_eq bs cs ≡ b → (if b then a else old cs) ≡ old cs)
    (λ e k. h ∙ ap old ((bytes_eq-Decides bs cs).0 k)) (λ e k. refl) refl)

module _ (bs : List ℕ) (w : KeySlot) (old new : List (List ℕ × KeySlot)) (h : (cs : List ℕ) → slot_at new cs ≡ (if bytes_eq bs cs then Some w else slot_at old cs)) where
  new_values : (keys_of new).values ≡ (λ cs. if bytes_eq bs cs then held_in (Some w) else (keys_of old).values cs)
  new_values = by_key held_in bs (Some w) (slot_at old) (slot_at new) h

  new_deleted : (keys_of new).deleted ≡ (λ cs. if bytes_eq bs cs then w.deleted else (keys_of old).deleted cs)
  new_deleted = by_key deleted_in bs (Some w) (slot_at old) (slot_at new) h

  new_has : (keys_of new).has ≡ (λ cs. if bytes_eq bs cs then true else (keys_of old).has cs)
  new_has = by_key is_some bs (Some w) (slot_at old) (slot_at new) h

  same_keys : (v : List ℕ → Option KeyValue) (d has : List ℕ → Bool) → (keys_of new).values ≡ v → (keys_of new).deleted ≡ d → (keys_of new).has ≡ has
      → keys_of new ≡ record { values = v; deleted = d; has = has }
  same_keys v d has e f g =
      ap₂ (λ x y. record { values = x; deleted = y; has = (keys_of new).has }) e f ∙ ap (λ z. record { values = v; deleted = d; has = z }) g

  -- a vacant slot came where none was
  pub room_made : slot_at old bs ≡ None → w ≡ record { held = None; deleted = false }
      → keys_of new ≡ record (keys_of old) { has = λ cs. if bytes_eq bs cs then true else (keys_of old).has cs }
  room_made none vacant =
      same_keys (keys_of old).values (keys_of old).deleted _
      (new_values ∙ as_before bs (held_in (Some w)) (keys_of old).values (ap (λ s. held_in (Some s)) vacant ∙ sym (ap held_in none)))
      (new_deleted ∙ as_before bs w.deleted (keys_of old).deleted (ap (λ s. s.deleted) vacant ∙ sym (ap deleted_in none))) new_has

  -- a slot that was there has another value, and is marked or as it was
  pub written : (was : KeySlot) → slot_at old bs ≡ Some was
      → keys_of new ≡ record (keys_of old) {
        values = λ cs. if bytes_eq bs cs then held_in (Some w) else (keys_of old).values cs;
        deleted = λ cs. if bytes_eq bs cs then w.deleted else (keys_of old).deleted cs;
      }
  written was here =
      same_keys _ _ (keys_of old).has new_values new_deleted (new_has ∙ as_before bs true (keys_of old).has (sym (ap is_some here)))

  pub value_written : (was : KeySlot) → slot_at old bs ≡ Some was → w.deleted ≡ was.deleted
      → keys_of new ≡ record (keys_of old) { values = λ cs. if bytes_eq bs cs then held_in (Some w) else (keys_of old).values cs }
  value_written was here same =
      written was here
      ∙ ap (λ d. record (keys_of old) { values = λ cs. if bytes_eq bs cs then held_in (Some w) else (keys_of old).values cs; deleted = d })
      (as_before bs w.deleted (keys_of old).deleted (same ∙ sym (ap deleted_in here)))

-- a key that has room already gets none
pub room_there : (slots : List (List ℕ × KeySlot)) (bs : List ℕ) → is_some (slot_at slots bs) ≡ true
    → keys_of slots ≡ record (keys_of slots) { has = λ cs. if bytes_eq bs cs then true else (keys_of slots).has cs }
room_there slots bs here = ap (λ has. record (keys_of slots) { has = has }) (sym (as_before bs true (keys_of slots).has (sym here)))

module _ {K : Type 0} (items : K → List ℕ) (bs : List ℕ) (m n : BTreeMap K KeySlot) (now : List (List ℕ × KeySlot)) (is : by_bytes items m.entries ≡ now) where
  slot_there : (o : Option KeySlot) → tree.get_by (λ k. slice_cmp nat_cmp bs (items k)) m ≡ o → slot_at (by_bytes items m.entries) bs ≡ o
  slot_there o h = found items bs m.entries ∙ h

  -- the value of a slot was written
  pub put_keys : (was w : KeySlot) (v : Option HeldValue)
      → tree.UpdatesBy (λ x y. slice_cmp nat_cmp (items x) (items y)) (λ k. slice_cmp nat_cmp bs (items k)) m n (Some w)
      → tree.get_by (λ k. slice_cmp nat_cmp bs (items k)) m ≡ Some was → w ≡ record was { held = v }
      → keys_of (by_bytes items n.entries) ≡ with_value (keys_of now) bs (shown_value v)
  put_keys was w v h here same =
      value_written bs w (by_bytes items m.entries) (by_bytes items n.entries) (updated items bs m n (Some w) h) was (slot_there (Some was) here) (ap (λ s. s.deleted) same)
      ∙ ap (λ s. with_value (keys_of (by_bytes items m.entries)) bs (held_in (Some s))) same ∙ ap (λ l. with_value (keys_of l) bs (shown_value v)) is

  -- a value moved to Rewrite
  pub rewrite_keys : (was w : KeySlot) (file : ℕ)
      → tree.UpdatesBy (λ x y. slice_cmp nat_cmp (items x) (items y)) (λ k. slice_cmp nat_cmp bs (items k)) m n (Some w)
      → tree.get_by (λ k. slice_cmp nat_cmp bs (items k)) m ≡ Some was → w ≡ record was { held = option_map (rewritten_held file) was.held }
      → keys_of (by_bytes items n.entries) ≡ with_value (keys_of now) bs (rewritten_value file ((keys_of now).values bs))
  rewrite_keys was w file h here same =
      put_keys was w (option_map (rewritten_held file) was.held) h here same
      ∙ ap (with_value (keys_of now) bs) (moved was.held ∙ ap (rewritten_value file) (sym (ap held_in (sym (ap (λ l. slot_at l bs) is) ∙ slot_there (Some was) here))))
    where
      moved : (o : Option HeldValue) → shown_value (option_map (rewritten_held file) o) ≡ rewritten_value file (shown_value o)
      moved None = refl
      moved (Some x) = refl

  -- a key without a slot has no value that could move
  pub nothing_moves : (file : ℕ) → tree.get_by (λ k. slice_cmp nat_cmp bs (items k)) m ≡ None
      → keys_of now ≡ with_value (keys_of now) bs (rewritten_value file ((keys_of now).values bs))
  nothing_moves file none =
      let no_value : (keys_of now).values bs ≡ None = ap held_in (sym (ap (λ l. slot_at l bs) is) ∙ slot_there None none) in
      ap (λ v. record (keys_of now) { values = v }) (sym (as_before bs (rewritten_value file ((keys_of now).values bs)) (keys_of now).values
      (ap (rewritten_value file) no_value ∙ sym no_value)))

  -- the slot lost its value and was marked
  pub delete_keys : (was w : KeySlot)
      → tree.UpdatesBy (λ x y. slice_cmp nat_cmp (items x) (items y)) (λ k. slice_cmp nat_cmp bs (items k)) m n (Some w)
      → tree.get_by (λ k. slice_cmp nat_cmp bs (items k)) m ≡ Some was → w ≡ record { held = None; deleted = true }
      → keys_of (by_bytes items n.entries) ≡ with_mark (keys_of now) bs
  delete_keys was w h here same =
      written bs w (by_bytes items m.entries) (by_bytes items n.entries) (updated items bs m n (Some w) h) was (slot_there (Some was) here)
      ∙ ap (λ s. record (keys_of (by_bytes items m.entries)) {
        values = λ cs. if bytes_eq bs cs then held_in (Some s) else (keys_of (by_bytes items m.entries)).values cs;
        deleted = λ cs. if bytes_eq bs cs then s.deleted else (keys_of (by_bytes items m.entries)).deleted cs;
      }) same
      ∙ ap (λ l. with_mark (keys_of l) bs) is

  -- a vacant slot came
  pub room_keys : (w : KeySlot) → tree.UpdatesBy (λ x y. slice_cmp nat_cmp (items x) (items y)) (λ k. slice_cmp nat_cmp bs (items k)) m n (Some w)
      → is_some (tree.get_by (λ k. slice_cmp nat_cmp bs (items k)) m) ≡ false → w ≡ record { held = None; deleted = false }
      → keys_of (by_bytes items n.entries) ≡ with_room (keys_of now) bs
  room_keys w h none vacant =
      room_made bs w (by_bytes items m.entries) (by_bytes items n.entries) (updated items bs m n (Some w) h)
      (slot_there None (no_some (tree.get_by (λ k. slice_cmp nat_cmp bs (items k)) m) none)) vacant
      ∙ ap (λ l. with_room (keys_of l) bs) is
    where
      no_some : (o : Option KeySlot) → is_some o ≡ false → o ≡ None
      no_some None e = refl
      no_some (Some s) e = cc

  -- the key has its room already
  pub room_kept : is_some (tree.get_by (λ k. slice_cmp nat_cmp bs (items k)) m) ≡ true → keys_of now ≡ with_room (keys_of now) bs
  room_kept h = room_there now bs (sym (ap (λ l. is_some (slot_at l bs)) is) ∙ ap is_some (found items bs m.entries) ∙ h)

  -- a key with room has a slot
  pub has_slot : {P : Type 0} → is_some (slot_at now bs) ≡ true → tree.get_by (λ k. slice_cmp nat_cmp bs (items k)) m ≡ None → P
  has_slot has none =
      absurd (let clash : false ≡ true = sym (ap is_some (slot_there None none)) ∙ ap (λ l. is_some (slot_at l bs)) is ∙ has in let never : ⊥ = cc in never)

-- What is known of keys after each slot changed in the same way.
module _ {K : Type 0} (items : K → List ℕ) (g : KeySlot → KeySlot) where
  each_slot : (cs : List ℕ) (es : List (K × KeySlot)) → slot_at (by_bytes items (map (λ e. (e.0, g e.1)) es)) cs ≡ option_map g (slot_at (by_bytes items es) cs)
  each_slot cs [] = refl
  each_slot cs (e ∷ es) = ap (λ o. if bytes_eq cs (items e.0) then Some (g e.1) else o) (each_slot cs es) ∙ if_map (bytes_eq cs (items e.0)) e.1 (slot_at (by_bytes items es) cs)
    where
      if_map : (b : Bool) (s : KeySlot) (o : Option KeySlot) → (if b then Some (g s) else option_map g o) ≡ option_map g (if b then Some s else o)
      if_map true s o = refl
      if_map false s o = refl

  pub each_key : (es : List (K × KeySlot))
      → keys_of (by_bytes items (map (λ e. (e.0, g e.1)) es))
      ≡ record {
        values = λ k. held_in (option_map g (slot_at (by_bytes items es) k));
        deleted = λ k. deleted_in (option_map g (slot_at (by_bytes items es) k));
        has = λ k. is_some (option_map g (slot_at (by_bytes items es) k));
      }
  each_key es = ap (λ (at : List ℕ → Option KeySlot). record { values = λ k. held_in (at k); deleted = λ k. deleted_in (at k); has = λ k. is_some (at k) }) (fun_ext (λ cs. each_slot cs es))

has_mapped : (g : KeySlot → KeySlot) (o : Option KeySlot) → is_some (option_map g o) ≡ is_some o
has_mapped g None = refl
has_mapped g (Some s) = refl

-- the slot without its value, and without its mark
abbrev pub emptied_slot : KeySlot → KeySlot
emptied_slot s = record s { held = None }

abbrev pub unmarked_slot : KeySlot → KeySlot
unmarked_slot s = record s { deleted = false }

pub empty_keys : {K : Type 0} (items : K → List ℕ) (es new : List (K × KeySlot)) (now : List (List ℕ × KeySlot)) → by_bytes items es ≡ now
    → new ≡ map (λ e. (e.0, emptied_slot e.1)) es → keys_of (by_bytes items new) ≡ emptied (keys_of now)
empty_keys items es new now is h =
    ap (λ l. keys_of (by_bytes items l)) h ∙ each_key items emptied_slot es
    ∙ ap₂ (λ v d. record { values = v; deleted = d; has = λ k. is_some (option_map emptied_slot (slot_at (by_bytes items es) k)) })
    (fun_ext (λ k. none (slot_at (by_bytes items es) k))) (fun_ext (λ k. same (slot_at (by_bytes items es) k)))
    ∙ ap (λ z. record (keys_of (by_bytes items es)) { values = λ k. None; has = z }) (fun_ext (λ k. has_mapped emptied_slot (slot_at (by_bytes items es) k)))
    ∙ ap (λ l. emptied (keys_of l)) is
  where
    none : (o : Option KeySlot) → held_in (option_map emptied_slot o) ≡ None
    none None = refl
    none (Some s) = refl

    same : (o : Option KeySlot) → deleted_in (option_map emptied_slot o) ≡ deleted_in o
    same None = refl
    same (Some s) = refl

pub unmark_keys : {K : Type 0} (items : K → List ℕ) (es new : List (K × KeySlot)) (now : List (List ℕ × KeySlot)) → by_bytes items es ≡ now
    → new ≡ map (λ e. (e.0, unmarked_slot e.1)) es → keys_of (by_bytes items new) ≡ unmarked_keys (keys_of now)
unmark_keys items es new now is h =
    ap (λ l. keys_of (by_bytes items l)) h ∙ each_key items unmarked_slot es
    ∙ ap₂ (λ v d. record { values = v; deleted = d; has = λ k. is_some (option_map unmarked_slot (slot_at (by_bytes items es) k)) })
    (fun_ext (λ k. same (slot_at (by_bytes items es) k))) (fun_ext (λ k. none (slot_at (by_bytes items es) k)))
    ∙ ap (λ z. record (keys_of (by_bytes items es)) { deleted = λ k. false; has = z }) (fun_ext (λ k. has_mapped unmarked_slot (slot_at (by_bytes items es) k)))
    ∙ ap (λ l. unmarked_keys (keys_of l)) is
  where
    none : (o : Option KeySlot) → deleted_in (option_map unmarked_slot o) ≡ false
    none None = refl
    none (Some s) = refl

    same : (o : Option KeySlot) → held_in (option_map unmarked_slot o) ≡ held_in o
    same None = refl
    same (Some s) = refl

-- the slots are the values of the map
pub same_slots : {K : Type 0} (items : K → List ℕ) (es : List (K × KeySlot)) → map (λ e. e.1) (by_bytes items es) ≡ map (λ e. e.1) es
same_slots items [] = refl
same_slots items (e ∷ es) = ap (λ l. e.1 ∷ l) (same_slots items es)
