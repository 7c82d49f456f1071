-- What restates a group in Rewrite is a whole group of copies.
use Rattle.std.proofs.Common.{◌≡◌, ℕ, suc, ◌+◌, ◌-◌, ◌<◌, ◌≤◌, Bool, true, false, not, ◌||◌, List, [], ◌∷◌, ◌++◌, length, map, take, drop, Option, Some, None, option_map, slice_get, if◌then◌else◌, nat_le, bytes_eq, inl, refl, sym, ap, ap₂, subst, ◌∙◌, arith, length-drop}
use Rattle.std.proofs.lemmas.Bool.{false≢true}
use Rattle.std.proofs.lemmas.List.{length-map, map-append}
use Rattle.raft_log_model_laws.specs.Item.{Item}
use Rattle.raft_log_model_laws.specs.Item.Item.{Clean, Compact, Del, Put, Run}
use Rattle.raft_log_model_laws.specs.Meaning.{Content, Slot}
use Rattle.raft_log_model_laws.specs.Meaning.Content.{Entry}
use Rattle.raft_log_model_laws.specs.Meaning.Slot.{Index}
use Rattle.raft_log_model_laws.specs.Groups.{of_group}
use Rattle.raft_log_model_laws.specs.Renamed.{renamed, renamed_content}
use Rattle.raft_log_model_laws.proofs.Public.{content_within, from_same_key, get_drop, if_true}
use Rattle.raft_log_machine_laws.specs.Whereabouts.{RunStands}
use Rattle.raft_log_extents.specs.declared.place.Place.{Place}
use Rattle.raft_log_memtable_index.specs.Shown.{IsOrderly, KeyValue, Shown}
use Rattle.raft_log_memtable_index.specs.Bridge.{IsMeant, Located, in_queue, located, moved_run, read, table_of}
use Rattle.raft_log_memtable_index.proofs.Public.{located_length}
use Rattle.raft_log_memtable.specs.Moves.{key_rewritten, may_move, rewritten_to}
use Rattle.raft_log_block_cache.specs.raft_log_memtables.specs.Rewriting.{IsCopy}
use Rattle.raft_log_block_cache.specs.raft_log_memtables.proofs.Public.{run_moves}
use Rattle.raft_log_block_cache.specs.Stored.{Each}
use Rattle.raft_log_engine_laws.specs.Parts.{WrittenPart, said_items}
use Rattle.raft_log_engine_laws.specs.Whole.{AreFiledCopies, Filed, RunPiece, all_places, batches_of, filed_copies, filed_items, in_one, in_pieces}
use Rattle.raft_log_engine_laws.specs.Restating.{HoldsRewritten, KeyBytes, RestatedGroupsAreWhole, entries_of_pieces, puts, runs_in, said_of_group}
use Rattle.raft_log_engine_laws.proofs.GroupLying.{each_on}
use Rattle.raft_log_engine_laws.proofs.Ending.{each_of_group, parts_said}

-- What is read of a table is what restates its map.

entries_alike : (at : Located → List ℕ) (es : List (List ℕ)) (ls : List Located) → length es ≤ length ls
    → ((j : ℕ) → j < length es → ◌≡◌ {A = Option (Content (List ℕ) (List ℕ))} (option_map Entry (slice_get es j)) (option_map (renamed_content at) (option_map Entry (slice_get ls j)))) → map at (take (length es) ls) ≡ es
entries_alike at [] ls fits same = refl
entries_alike at (e ∷ es) [] fits same = absurd (omega (arith, fits))
entries_alike at (e ∷ es) (l ∷ ls) fits same =
    let first : ◌≡◌ {A = Option (Content (List ℕ) (List ℕ))} (Some (Entry e)) (Some (Entry (at l))) = same 0 (omega arith) in
    let here : at l ≡ e = cc in
    ap₂ (λ (x : List ℕ) (xs : List (List ℕ)). x ∷ xs) here (entries_alike at es ls (omega (arith, fits)) (λ j within. same (suc j) (omega (arith, within))))

is_read : (at : Located → List ℕ) (v : Shown) (m : Slot → Option (Content (List ℕ) (List ℕ))) (f : ℕ) (es : List (List ℕ)) → IsMeant at v m → RunStands m f es → v.first ≤ f → f + length es ≤ v.first + length v.places
    → read at v f (length es) ≡ es
is_read at v m f es meant says from fits =
    let ls : List Located = located v.rewritten v.places in
    let d : ℕ = f - v.first in
    let long = located_length v.rewritten v.places in
    let left = length-drop d ls in
    entries_alike at es (drop d ls) (omega (arith, from, fits, long, left))
    (λ j within.
    let back : (f + j) - f ≡ j = omega arith in
    let there : (f + j) - v.first ≡ d + j = omega (arith, from) in
    ap (λ (k : ℕ). option_map Entry (slice_get es k)) (sym back)
    ∙ says (f + j) (omega arith) (omega (arith, within))
    ∙ sym (meant (Index (f + j)))
    ∙ ap (option_map (renamed_content at)) (content_within (table_of v) (f + j) (omega (arith, from)) ∙ ap (λ (k : ℕ). option_map Entry (slice_get ls k)) there)
    ∙ ap (λ (o : Option Located). option_map (renamed_content at) (option_map Entry o)) (sym (get_drop d ls j)))

-- The items of places, told by what they say.

-- a rewritten value may move, whatever the gate
may_go : (gate : Option ℕ) (h : KeyValue) → h.appended ≡ false → may_move gate h ≡ true
may_go None h is = ap not is
may_go (Some gate) h is = ap (λ (b : Bool). not b || nat_le h.file gate) is

module _ (at : Located → List ℕ) where
  abbrev bytes : Place → List ℕ
  bytes p = at (in_queue false p)

  -- the items are a run in pieces, and keys behind it
  record IsParted (xs : List Filed) (f : ℕ) (pieces : List (List (List ℕ))) (keys : List KeyBytes) : Type 0 where
    runs : List RunPiece
    rest : List Filed
    items : xs ≡ in_pieces f runs ++ rest
    entries : map bytes (all_places runs) ≡ entries_of_pieces pieces
    said : filed_copies at rest ≡ puts keys

  one_parted : (n : ℕ) (x : Item Place (List ℕ)) (xs : List Filed) (f : ℕ) (es : List (List ℕ)) (more : List (List (List ℕ))) (keys : List KeyBytes)
      → renamed bytes x ≡ Run f es → filed_copies at xs ≡ runs_in (f + length es) more ++ puts keys → (filed_copies at xs ≡ runs_in (f + length es) more ++ puts keys → IsParted xs (f + length es) more keys)
      → IsParted (record { file = n; item = x } ∷ xs) f (es ∷ more) keys
  one_parted n (Run i ps) xs f es more keys one others again =
      let index : i ≡ f = cc in
      let same : map bytes ps ≡ es = cc in
      let long : length ps ≡ length es = sym (length-map ps bytes) ∙ ap length same in
      let on = again others in
      record {
        runs = record { file = n; places = ps } ∷ on.runs;
        rest = on.rest;
        items = ap₂ (λ (j : ℕ) (l : List Filed). record { file = n; item = Run j ps } ∷ l) index
            (on.items ∙ ap (λ (k : ℕ). in_pieces (f + k) on.runs ++ on.rest) (sym long));
        entries = map-append bytes ps (all_places on.runs) ∙ ap₂ (λ a b. a ++ b) same on.entries;
        said = on.said;
      }
  one_parted n Clean xs f es more keys one others again = absurd (let never : ⊥ = cc in never)
  one_parted n (Compact c) xs f es more keys one others again = absurd (let never : ⊥ = cc in never)
  one_parted n (Put k w) xs f es more keys one others again = absurd (let never : ⊥ = cc in never)
  one_parted n (Del k) xs f es more keys one others again = absurd (let never : ⊥ = cc in never)

  parted : (xs : List Filed) (f : ℕ) (pieces : List (List (List ℕ))) (keys : List KeyBytes) → filed_copies at xs ≡ runs_in f pieces ++ puts keys → IsParted xs f pieces keys
  parted xs f [] keys said = record { runs = []; rest = xs; items = refl; entries = refl; said = said }
  parted [] f (es ∷ more) keys said = absurd (let never : ⊥ = cc in never)
  parted (x ∷ xs) f (es ∷ more) keys said =
      let one : renamed {V = List ℕ} bytes x.item ≡ Run f es = cc in
      let others : filed_copies at xs ≡ runs_in (f + length es) more ++ puts keys = cc in
      one_parted x.file x.item xs f es more keys one others (λ h. parted xs (f + length es) more keys h)

  -- a key that is written again stands in Rewrite still
  value_stays : (gate : Option ℕ) (n : ℕ) (v : Shown) (k : List ℕ) (q : KeyBytes) (b : Bool) → (b ≡ true → k ≡ q.key) → HoldsRewritten v q
      → (h : KeyValue) × ((if b then rewritten_to gate n (v.held k) else v.held q.key) ≡ Some h) × (h.bytes ≡ q.value) × (h.appended ≡ false)
  value_stays gate n v k q false same holds = (holds.held, holds.is, holds.bytes, holds.rewritten)
  value_stays gate n v k q true same holds =
      let new : KeyValue = record { bytes = holds.held.bytes; appended = false; file = n } in (
        new,
        ap (λ (j : List ℕ). rewritten_to gate n (v.held j)) (same refl) ∙ ap (rewritten_to gate n) holds.is ∙ if_true (may_move gate holds.held) (Some new) (Some holds.held) (may_go gate holds.held holds.rewritten),
        holds.bytes,
        refl,
      )

  key_stays : (gate : Option ℕ) (n : ℕ) (v : Shown) (k : List ℕ) (q : KeyBytes) → HoldsRewritten v q → HoldsRewritten (key_rewritten gate v k n) q
  key_stays gate n v k q holds = (let kept = value_stays gate n v k q (bytes_eq k q.key) (from_same_key k q.key) holds in record { held = kept.0; is = kept.1; bytes = kept.2; rewritten = kept.3 })

  one_key : (gate : Option ℕ) (v : Shown) (n : ℕ) (x : Item Place (List ℕ)) (xs : List Filed) (k : KeyBytes) (ks : List KeyBytes) → renamed bytes x ≡ Put k.key k.value → Each (HoldsRewritten v) (k ∷ ks)
      → ((u : Shown) → Each (HoldsRewritten u) ks → AreFiledCopies at gate u xs) → AreFiledCopies at gate v (record { file = n; item = x } ∷ xs)
  one_key gate v n (Put i w) xs k ks one (holds, others) again =
      let key : i ≡ k.key = cc in
      let value : w ≡ k.value = cc in (
        (holds.held, ap v.held key ∙ holds.is, value ∙ sym holds.bytes, may_go gate holds.held holds.rewritten, λ appended. absurd (false≢true (sym holds.rewritten ∙ appended))),
        again (key_rewritten gate v i n) (each_on (HoldsRewritten v) (HoldsRewritten (key_rewritten gate v i n)) ks (key_stays gate n v i) others),
      )
  one_key gate v n (Run i ps) xs k ks one holds again = absurd (let never : ⊥ = cc in never)
  one_key gate v n Clean xs k ks one holds again = absurd (let never : ⊥ = cc in never)
  one_key gate v n (Compact c) xs k ks one holds again = absurd (let never : ⊥ = cc in never)
  one_key gate v n (Del i) xs k ks one holds again = absurd (let never : ⊥ = cc in never)

  keys_are_copies : (gate : Option ℕ) (v : Shown) (xs : List Filed) (ks : List KeyBytes) → filed_copies at xs ≡ puts ks → Each (HoldsRewritten v) ks → AreFiledCopies at gate v xs
  keys_are_copies gate v [] ks said holds = tt
  keys_are_copies gate v (x ∷ xs) [] said holds = absurd (let never : ⊥ = cc in never)
  keys_are_copies gate v (x ∷ xs) (k ∷ ks) said holds =
      let one : renamed {V = List ℕ} bytes x.item ≡ Put k.key k.value = cc in
      let others : filed_copies at xs ≡ puts ks = cc in
      one_key gate v x.file x.item xs k ks one holds (λ u h. keys_are_copies gate u xs ks others h)

  run_is_copy : (gate : Option ℕ) (v : Shown) (m : Slot → Option (Content (List ℕ) (List ℕ))) (f : ℕ) (ps : List Place) (es : List (List ℕ)) → IsOrderly v → IsMeant at v m → map bytes ps ≡ es → v.first ≤ f
      → f + length es ≡ v.first + v.rewritten → RunStands m f es → IsCopy at gate v (Run f ps)
  run_is_copy gate v m f ps es o meant same from to says =
      let parts = o.parts in
      let long : length ps ≡ length es = sym (length-map ps bytes) ∙ ap length same in (
        from,
        omega (arith, to),
        omega (arith, to, long),
        omega (arith, to, long),
        inl (omega (arith, to, long)),
        same ∙ sym (is_read at v m f es meant says from (omega (arith, to, parts))) ∙ ap (read at v f) (sym long),
      )

  pub in_one_copies : (gate : Option ℕ) (v : Shown) (m : Slot → Option (Content (List ℕ) (List ℕ))) (f : ℕ) (ps : List RunPiece) (rest : List Filed) (es : List (List ℕ)) (ks : List KeyBytes) → IsOrderly v → IsMeant at v m
      → map bytes (all_places ps) ≡ es → v.first ≤ f → f + length es ≡ v.first + v.rewritten → RunStands m f es → filed_copies at rest ≡ puts ks → Each (HoldsRewritten v) ks → AreFiledCopies at gate v (in_one f ps ++ rest)
  in_one_copies gate v m f [] rest es ks o meant same from to says said holds = keys_are_copies gate v rest ks said holds
  in_one_copies gate v m f (p ∷ ps) rest es ks o meant same from to says said holds =
      let copy = run_is_copy gate v m f (all_places (p ∷ ps)) es o meant same from to says in
      let u : Shown = moved_run v f (all_places (p ∷ ps)) in (
        copy,
        subst (λ x. AreFiledCopies at gate x rest) (sym (run_moves gate v f (all_places (p ∷ ps)) copy.0 copy.1 copy.2 copy.3))
            (keys_are_copies gate u rest ks said (each_on (HoldsRewritten v) (HoldsRewritten u) ks (λ k h. record { held = h.held; is = h.is; bytes = h.bytes; rewritten = h.rewritten }) holds)),
      )

-- The law.

pub batches_say : (g : ℕ) (ps : List WrittenPart) → each_of_group g (map (λ p. said_items p.batch) ps) ≡ said_of_group g (batches_of ps)
batches_say g [] = refl
batches_say g (p ∷ ps) = ap (λ l. of_group g (said_items p.batch) ++ l) (batches_say g ps)

pub restated_whole : RestatedGroupsAreWhole
restated_whole gate bs v m all ps at is meant says g =
    let r = all g in
    let said : filed_copies at (filed_items g ps) ≡ runs_in r.first r.pieces ++ puts r.keys = sym (parts_said at g ps says) ∙ batches_say g ps ∙ ap (said_of_group g) is ∙ r.said in
    let w = parted at (filed_items g ps) r.first r.pieces r.keys said in record {
      first = r.first;
      pieces = w.runs;
      rest = w.rest;
      items = w.items;
      copies = in_one_copies at gate (v g) (m g) r.first w.runs w.rest (entries_of_pieces r.pieces) r.keys (meant.orderly g) (meant.meant g) w.entries r.from r.to r.entries w.said r.held;
    }
