-- Copies into Rewrite are steps of the whereabouts, and change nothing of what a table means.
use Rattle.std.proofs.Common.{◌≡◌, ℕ, ◌+◌, ◌-◌, ◌<◌, ◌≤◌, Bool, true, false, List, [], ◌∷◌, ◌++◌, length, take, drop, map, Option, Some, None, option_map, slice_get, if◌then◌else◌, bytes_eq, refl, sym, ap, ap₂, subst, ◌∙◌, inl, inr, arith, length-append, length-take, length-drop}
use Rattle.std.proofs.lemmas.List.{map-append, length-map, take-append-drop, drop-drop}
use Rattle.std.proofs.lemmas.Option.{slice_get-map}
use Rattle.raft_log_model_laws.specs.Item.Item.{Run}
use Rattle.raft_log_model_laws.specs.Meaning.{Slot, Content}
use Rattle.raft_log_model_laws.specs.Meaning.Slot.{Index, Key}
use Rattle.raft_log_model_laws.specs.Meaning.Content.{Entry, Value}
use Rattle.raft_log_model_laws.specs.Renamed.{renamed_content}
use Rattle.raft_log_model_laws.proofs.Public.{content_within, from_same_key, get_drop, get_take}
use Rattle.raft_log_machine_laws.specs.Whereabouts.{RunStands, Carries, CarriesAll, with_key}
use Rattle.raft_log_extents.specs.declared.place.Place.{Place}
use Rattle.raft_log_memtable_index.specs.Shown.{KeyValue, Shown, is_in_append, whereabouts, IsOrderly}
use Rattle.raft_log_memtable_index.specs.Bridge.{Located, in_queue, located, bytes_held, table_of, IsMeant, Move, moved_run, rewritten_value, moved_key, moved, all_moved, CanMove, CanAllMove, item_of_key, item_of, items_of}
use Rattle.raft_log_memtable_index.specs.Bridge.Move.{MoveRun, MoveKey}
use Rattle.raft_log_memtable_index.proofs.Queues.{located_moved}
use Rattle.raft_log_memtable_index.proofs.Grow.{same_ends, appended_with}
use Rattle.raft_log_memtable_index.proofs.Meant.{same_bytes}

-- a list in three parts
three_parts : {A : Type 0} (d k : ℕ) (xs : List A) → take d xs ++ (take k (drop d xs) ++ drop (d + k) xs) ≡ xs
three_parts d k xs =
    ap (λ l. take d xs ++ (take k (drop d xs) ++ l)) (sym (drop-drop k d xs))
    ∙ ap (λ l. take d xs ++ l) (take-append-drop k (drop d xs)) ∙ take-append-drop d xs

-- how many places there are after a run moved: as many as before
pub moved_length : (v : Shown) (f : ℕ) (ps : List Place) → v.first ≤ f → f + length ps ≤ v.first + length v.places → length (moved_run v f ps).places ≡ length v.places
moved_length v f ps low high =
    length-append (take (f - v.first) v.places) (ps ++ drop ((f - v.first) + length ps) v.places)
    ∙ ap₂ ◌+◌ (length-take (f - v.first) v.places) (length-append ps (drop ((f - v.first) + length ps) v.places) ∙ ap (λ n. length ps + n) (length-drop ((f - v.first) + length ps) v.places))
    ∙ omega arith

module _ {E : Type 0} (at : Located → E) where
  -- the bytes of all entries are what they were
  bytes_moved : (v : Shown) (f : ℕ) (ps : List Place) → IsOrderly v → CanMove at v (MoveRun f ps)
      → map at (located (moved_run v f ps).rewritten (moved_run v f ps).places) ≡ map at (located v.rewritten v.places)
  bytes_moved v f ps o h =
      let d : ℕ = f - v.first in
      let n : ℕ = (f - v.first) + length ps in
      let entries = located v.rewritten v.places in
      ap (map at) (located_moved n d v.rewritten ps v.places refl (let low = h.0 in let split = h.1 in omega arith) (let low = h.0 in let reach = h.2 in omega arith) (let low = h.0 in let end = h.3 in omega arith))
      ∙ map-append at (take d entries) (map (in_queue false) ps ++ drop n entries)
      ∙ ap (λ l. map at (take d entries) ++ l) (map-append at (map (in_queue false) ps) (drop n entries) ∙ ap (λ l. l ++ map at (drop n entries)) (map_twice ps ∙ h.5))
      ∙ ap (λ l. map at (take d entries) ++ l) (sym (map-append at (take (length ps) (drop d entries)) (drop n entries)))
      ∙ sym (map-append at (take d entries) (take (length ps) (drop d entries) ++ drop n entries))
      ∙ ap (map at) (three_parts d (length ps) entries)
    where
      map_twice : (qs : List Place) → map at (map (in_queue false) qs) ≡ map (λ p. at (in_queue false p)) qs
      map_twice [] = refl
      map_twice (q ∷ qs) = ap (λ l. at (in_queue false q) ∷ l) (map_twice qs)

  value_kept : (b : Bool) (k q : List ℕ) (held : List ℕ → Option KeyValue) (n : ℕ) → (b ≡ true → k ≡ q)
      → bytes_held (if b then rewritten_value n (held k) else held q) ≡ bytes_held (held q)
  value_kept true k q held n same = same_value (held k) ∙ ap (λ j. bytes_held (held j)) (same refl)
    where
      same_value : (o : Option KeyValue) → bytes_held (rewritten_value n o) ≡ bytes_held o
      same_value None = refl
      same_value (Some h) = refl
  value_kept false k q held n same = refl

  -- so the table means what it meant
  pub move_meant : (v : Shown) (x : Move) (m : Slot → Option (Content E (List ℕ))) → IsOrderly v → CanMove at v x → IsMeant at v m → IsMeant at (moved v x) m
  move_meant v (MoveRun f ps) m o h meant s = same_bytes at at (table_of v) (table_of (moved_run v f ps)) refl (bytes_moved v f ps o h) (λ k. refl) s ∙ meant s
  move_meant v (MoveKey k n) m o h meant s =
      same_bytes at at (table_of v) (table_of (moved_key v k n)) refl refl (λ q. value_kept (bytes_eq k q) k q v.held n (from_same_key k q)) s ∙ meant s

  pub move_orderly : (v : Shown) (x : Move) → IsOrderly v → CanMove at v x → IsOrderly (moved v x)
  move_orderly v (MoveRun f ps) o h = record {
    parts = (let low = h.0 in let end = h.3 in omega (arith, moved_length v f ps h.0 h.3));
    end = (let end = o.end in omega (arith, moved_length v f ps h.0 h.3));
  }
  move_orderly v (MoveKey k n) o h = record { parts = o.parts; end = o.end }

  -- the entry at an index of the moved run is what stands there
  restated : (v : Shown) (f : ℕ) (ps : List Place) (m : Slot → Option (Content E (List ℕ))) → CanMove at v (MoveRun f ps) → IsMeant at v m
      → RunStands m f (map (λ p. at (in_queue false p)) ps)
  restated v f ps m h meant i from to =
      let within : i < f + length ps = subst (λ n. i < f + n) (length-map ps (λ p. at (in_queue false p))) to in
      let entries = located v.rewritten v.places in
      let place : (f - v.first) + (i - f) ≡ i - v.first = (let low = h.0 in omega arith) in
      ap (λ es. option_map Entry (slice_get es (i - f))) h.5
      ∙ ap (option_map Entry) (slice_get-map at (take (length ps) (drop (f - v.first) entries)) (i - f)
      ∙ ap (option_map at) (get_take (length ps) (drop (f - v.first) entries) (i - f) (omega arith) ∙ get_drop (f - v.first) entries (i - f) ∙ ap (slice_get entries) place))
      ∙ entry_of (slice_get entries (i - v.first))
      ∙ ap (option_map (renamed_content at)) (sym (content_within (table_of v) i (let low = h.0 in omega arith)))
      ∙ meant (Index i)
    where
      entry_of : (o : Option Located) → ◌≡◌ {A = Option (Content E (List ℕ))} (option_map Entry (option_map at o)) (option_map (renamed_content at) (option_map Entry o))
      entry_of None = refl
      entry_of (Some e) = refl

  carry_run : (v : Shown) (f : ℕ) (ps : List Place) (m : Slot → Option (Content E (List ℕ))) → CanMove at v (MoveRun f ps) → IsMeant at v m → (es : List E)
      → es ≡ map (λ p. at (in_queue false p)) ps → length es ≡ length ps → Carries m (whereabouts v) (Run f es) (whereabouts (moved_run v f ps))
  carry_run v f ps m h meant [] same count =
      same_ends (whereabouts v) _ _ _ _ _ _ refl (let low = h.0 in let split = h.1 in let reach = h.2 in omega (arith, count)) (ap (λ n. v.first + n) (moved_length v f ps h.0 h.3))
  carry_run v f ps m h meant (e ∷ es) same count = (
    h.0,
    h.1,
    (let reach = h.2 in omega (arith, count)),
    (let end = h.3 in omega (arith, count)),
    subst (RunStands m f) (sym same) (restated v f ps m h meant),
    elim h.4 [ inl whole ↦ inl (omega (arith, count, whole)) | inr clear ↦ inr clear ],
    same_ends (whereabouts v) _ _ _ _ _ _ refl (let low = h.0 in omega (arith, count)) (ap (λ n. v.first + n) (moved_length v f ps h.0 h.3)),
  )

  key_item : (v : Shown) (k : List ℕ) (n : ℕ) (m : Slot → Option (Content E (List ℕ))) → CanMove at v (MoveKey k n) → IsMeant at v m
      → (h : Option KeyValue) → v.held k ≡ h → Carries m (whereabouts v) (item_of_key k h) (whereabouts (moved_key v k n))
  key_item v k n m can meant None e = absurd (let clash : ◌≡◌ {A = Option KeyValue} None (Some can.0) = sym e ∙ can.1 in let never : ⊥ = cc in never)
  key_item v k n m can meant (Some h) e = (
    sym (meant (Key k)) ∙ ap (λ o. option_map (renamed_content at) (option_map Value (bytes_held o))) e,
    (λ a. can.2 (let same : ◌≡◌ {A = Option KeyValue} (Some h) (Some can.0) = sym e ∙ can.1 in (let one : h ≡ can.0 = cc in ap (λ x. x.appended) (sym one)) ∙ (sym (ap is_in_append e) ∙ a))),
    ap (λ a. record (whereabouts v) { appended = a }) (appended_with v k (rewritten_value n (v.held k)) ∙ ap (with_key (λ q. is_in_append (v.held q)) k) (not_appended (v.held k))),
  )
    where
      not_appended : (o : Option KeyValue) → is_in_append (rewritten_value n o) ≡ false
      not_appended None = refl
      not_appended (Some x) = refl

  -- one copy
  move_carries : (v : Shown) (x : Move) (m : Slot → Option (Content E (List ℕ))) → CanMove at v x → IsMeant at v m
      → Carries m (whereabouts v) (item_of at v x) (whereabouts (moved v x))
  move_carries v (MoveRun f ps) m h meant = carry_run v f ps m h meant (map (λ p. at (in_queue false p)) ps) refl (length-map ps (λ p. at (in_queue false p)))
  move_carries v (MoveKey k n) m h meant = key_item v k n m h meant (v.held k) refl

  -- copy after copy
  pub moves_carry : (v : Shown) (xs : List Move) (m : Slot → Option (Content E (List ℕ))) → IsOrderly v → CanAllMove at v xs → IsMeant at v m
      → CarriesAll m (whereabouts v) (items_of at v xs) (whereabouts (all_moved v xs))
  moves_carry v [] m o h meant = refl
  moves_carry v (x ∷ xs) m o h meant =
      (whereabouts (moved v x), move_carries v x m h.0 meant, moves_carry (moved v x) xs m (move_orderly v x o h.0) h.1 (move_meant v x m o h.0 meant))

  pub moves_meant : (v : Shown) (xs : List Move) (m : Slot → Option (Content E (List ℕ))) → IsOrderly v → CanAllMove at v xs → IsMeant at v m → IsMeant at (all_moved v xs) m
  moves_meant v [] m o h meant = meant
  moves_meant v (x ∷ xs) m o h meant = moves_meant (moved v x) xs m (move_orderly v x o h.0) h.1 (move_meant v x m o h.0 meant)

  pub moves_orderly : (v : Shown) (xs : List Move) → IsOrderly v → CanAllMove at v xs → IsOrderly (all_moved v xs)
  moves_orderly v [] o h = o
  moves_orderly v (x ∷ xs) o h = moves_orderly (moved v x) xs (move_orderly v x o h.0) h.1
