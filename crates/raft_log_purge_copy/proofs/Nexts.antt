-- The entries that come next.
use Rattle.std.proofs.Common.{◌≡◌, ◌⊎◌, ℕ, zero, suc, ◌+◌, ◌-◌, ◌≤◌, min, if◌then◌else◌, List, [], ◌∷◌, ◌++◌, length, map, take, drop, Option, Some, None, option_map, unwrap_or, nat_le, nat_lt, inl, inr, refl, sym, ap, ap₂, subst, ◌∙◌, arith}
use Rattle.std.proofs.lemmas.List.{length-drop, length-take, take_all}
use Rattle.std.specs.BTreeMap.{get}
use Rattle.std.specs.Ordering.{nat_cmp}
use Rattle.raft_log_model_laws.proofs.Public.{at_bool}
use Rattle.raft_log_record_base.specs.declared.errors.Error.TheVariants as errors
use Rattle.raft_log_record_items.specs.declared.entry.EntryIndex.{EntryIndex}
use Rattle.raft_log_extents.specs.declared.place.Place.{Place}
use Rattle.raft_log_extents.specs.Counts.{fitting, passing, sized}
use Rattle.raft_log_extents.specs.Entries.{entry_of, place_of, queue_of}
use Rattle.raft_log_memtable_index.specs.Shown.{IsOrderly, Shown}
use Rattle.raft_log_engine_laws.specs.raft_log_memtable.specs.Reads.{entries_from, fetched, places_between}
use Rattle.raft_log_engine_laws.specs.raft_log_memtable.specs.Table.{Raw, shown}
use Rattle.raft_log_memtables.specs.declared.group_table.GroupTable.{GroupTable}
use Rattle.raft_log_memtables.specs.declared.mem_tables.MemTables.{MemTables}
use Rattle.raft_log_memtables.specs.Tables.{raw_of, shown_in, shown_of}
use Rattle.raft_log_purge_copy.specs.Entries.{AreNext, copied_count, next_places, max_piece}

raw_in : (o : Option GroupTable) (t : Raw) → Some t ≡ option_map (λ x. x.table) o → shown_in o ≡ shown t
raw_in None t is = absurd (let never : ⊥ = cc in never)
raw_in (Some x) t is = ap shown (sym (ap (λ (o : Option Raw). unwrap_or o t) is))

-- the group's table shows what is shown of the group
pub raw_shown : (m : MemTables) (g : ℕ) (t : Raw) → Some t ≡ raw_of m g → shown_of m g ≡ shown t
raw_shown m g t is = raw_in (get nat_cmp m.groups g) t is

first_taken : {A : Type 0} (a b : ℕ) (xs : List A) → a ≤ b → take a (take b xs) ≡ take a xs
first_taken zero b xs low = refl
first_taken (suc a) zero xs low = absurd (omega (arith, low))
first_taken (suc a) (suc b) [] low = refl
first_taken (suc a) (suc b) (x ∷ xs) low = ap (λ l. x ∷ l) (first_taken a b xs (omega (arith, low)))

entries_taken : (v : Shown) (n k : ℕ) (ps : List Place) → take n (entries_from v k ps) ≡ entries_from v k (take n ps)
entries_taken v zero k ps = refl
entries_taken v (suc n) k [] = refl
entries_taken v (suc n) k (p ∷ ps) = ap (λ (l : List EntryIndex). entry_of (queue_of (nat_lt k v.rewritten)) (v.first + k) p ∷ l) (entries_taken v n (k + 1) ps)

places_back : (v : Shown) (k : ℕ) (ps : List Place) → map place_of (entries_from v k ps) ≡ ps
places_back v k [] = refl
places_back v k (p ∷ ps) = ap (λ (l : List Place). p ∷ l) (places_back v (k + 1) ps)

passing_taken : (gate n : ℕ) (ps : List Place) → passing gate (take n ps) ≡ min n (passing gate ps)
passing_taken gate zero ps = omega arith
passing_taken gate (suc n) [] = omega arith
passing_taken gate (suc n) (p ∷ ps) =
    at_bool (nat_le p.file gate) (λ b. (if b then suc (passing gate (take n ps)) else 0) ≡ min (suc n) (if b then suc (passing gate ps) else 0))
    (λ _. let rest = passing_taken gate n ps in omega (arith, rest)) (λ _. omega arith)

-- no more are copied at once than pass the gate
pub copied_few : (gate : ℕ) (ps : List Place) → copied_count gate ps ≤ passing gate ps
copied_few gate ps = omega arith

-- of those that may come at once, the ones up to the gate
pub next_of : (v : Shown) (gate begin end n : ℕ) (es : List EntryIndex) → IsOrderly v → begin ≡ v.first + v.rewritten → end ≡ v.first + length v.places
    → es ≡ fetched v begin end (Some max_piece) → n ≡ passing gate (map place_of es) → AreNext gate v (take n es)
next_of v gate begin end n es orderly from to found count =
    let ps : List Place = drop v.rewritten v.places in
    let most : ℕ = sized (Some max_piece) ps in
    let parts = orderly.parts in
    let here : begin - v.first ≡ v.rewritten = omega (arith, from) in
    let left : end - begin ≡ length v.places - v.rewritten = omega (arith, from, to) in
    let long = length-drop v.rewritten v.places in
    let all : places_between v begin end ≡ ps = ap₂ (λ (a b : ℕ). take a (drop b v.places)) left here ∙ take_all (length v.places - v.rewritten) ps (omega (arith, long)) in
    let these : es ≡ entries_from v v.rewritten (take most ps) = found ∙ ap₂ (λ (k : ℕ) (l : List Place). entries_from v k (take (sized (Some max_piece) l) l)) here all in
    let few : n ≡ min most (passing gate ps) =
    count ∙ ap (λ (l : List EntryIndex). passing gate (map place_of l)) these ∙ ap (passing gate) (places_back v v.rewritten (take most ps)) ∙ passing_taken gate most ps in
    ap₂ (λ (k : ℕ) (l : List EntryIndex). take k l) few these ∙ entries_taken v (min most (passing gate ps)) v.rewritten (take most ps)
    ∙ ap (entries_from v v.rewritten) (first_taken (min most (passing gate ps)) most ps (omega arith))

-- a group without a table has none
pub next_none : (m : MemTables) (g gate : ℕ) (es : List EntryIndex) → None ≡ raw_of m g → es ≡ [] → AreNext gate (shown_of m g) es
next_none m g gate es none is = by (get nat_cmp m.groups g) none
  where
    by : (o : Option GroupTable) → None ≡ option_map (λ x. x.table) o → AreNext gate (shown_in o) es
    by None same = is
    by (Some t) same = absurd (let never : ⊥ = cc in never)

pub next_found : (m : MemTables) (g gate begin end n : ℕ) (t : Raw) (old mid new : List EntryIndex) → Some t ≡ raw_of m g → IsOrderly (shown t) → begin ≡ t.first + t.rewritten → end ≡ t.first + length t.places.items → old ≡ []
    → mid ≡ old ++ fetched (shown t) begin end (Some max_piece) → n ≡ passing gate (map place_of mid) → new ≡ take n mid → AreNext gate (shown_of m g) new
next_found m g gate begin end n t old mid new is orderly from to none found count cut_off =
    subst (λ (v : Shown). AreNext gate v new) (sym (raw_shown m g t is))
    (subst (AreNext gate (shown t)) (sym cut_off)
    (next_of (shown t) gate begin end n mid orderly from to (found ∙ ap (λ (l : List EntryIndex). l ++ fetched (shown t) begin end (Some max_piece)) none) count))

-- Where none comes next, none passes the gate.

first_comes : (most : ℕ) (ps : List Place) → length ps ≡ 0 ⊎ (1 ≤ sized (Some most) ps)
first_comes most [] = inl refl
first_comes most (p ∷ ps) = inr (at_bool (nat_le p.entry_len most) (λ b. 1 ≤ (if b then suc (fitting (most - p.entry_len) ps) else 1)) (λ _. omega arith) (λ _. omega arith))

taken_none : {A : Type 0} (n : ℕ) (xs : List A) → length (take n xs) ≡ 0 → n ≤ length xs → n ≡ 0
taken_none n xs none low = let long = length-take n xs in omega (arith, none, low, long)

entries_len : (v : Shown) (k : ℕ) (ps : List Place) → length (entries_from v k ps) ≡ length ps
entries_len v k [] = refl
entries_len v k (p ∷ ps) = let rest = entries_len v (k + 1) ps in omega (arith, rest)

passing_fits : (gate : ℕ) (ps : List Place) → passing gate ps ≤ length ps
passing_fits gate [] = omega arith
passing_fits gate (p ∷ ps) =
    at_bool (nat_le p.file gate) (λ b. (if b then suc (passing gate ps) else 0) ≤ suc (length ps))
    (λ _. let rest = passing_fits gate ps in omega (arith, rest)) (λ _. omega arith)

pub none_passes : (gate : ℕ) (v : Shown) → AreNext gate v [] → passing gate (drop v.rewritten v.places) ≡ 0
none_passes gate v next =
    let ps : List Place = drop v.rewritten v.places in
    let most = passing_fits gate ps in
    let none : 0 ≡ length (next_places gate v) = ap length next ∙ entries_len v v.rewritten (next_places gate v) in
    let zero_taken = taken_none (copied_count gate ps) ps (sym none) (omega (arith, most)) in
    elim (first_comes max_piece ps) [ inl empty ↦ omega (arith, most, empty) | inr one ↦ omega (arith, zero_taken, one) ]

-- no more come next than pass the gate
pub next_few : (gate : ℕ) (v : Shown) (es : List EntryIndex) → AreNext gate v es → length es ≤ passing gate (drop v.rewritten v.places)
next_few gate v es next =
    let ps : List Place = drop v.rewritten v.places in
    let count = ap length next ∙ entries_len v v.rewritten (next_places gate v) ∙ length-take (copied_count gate ps) ps in
    let low = copied_few gate ps in omega (arith, count, low)
