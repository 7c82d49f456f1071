-- Which files are noted after each change, and that none is noted too late.
use Rattle.std.proofs.Common.{◌≡◌, ℕ, zero, suc, ◌+◌, ◌-◌, ◌<◌, ◌≤◌, ◌⊎◌, min, max, true, false, ◌&&◌, List, [], ◌∷◌, ◌++◌, length, take, drop, map, Option, Some, None, option_map, slice_get, if◌then◌else◌, nat_le, nat_lt, bytes_eq, refl, sym, ap, subst, ◌∙◌, inl, inr, arith, length-take, length-drop, le_refl}
use Rattle.std.proofs.lemmas.Bool.Decides.{nat_tests}
use Rattle.std.proofs.lemmas.Bool.{cases_lt}
use Rattle.std.proofs.lemmas.List.{length-map}
use Rattle.raft_log_model_laws.specs.Item.{Item}
use Rattle.raft_log_model_laws.specs.Item.Item.{Run, Clean, Compact, Put, Del}
use Rattle.raft_log_model_laws.specs.Meaning.{Slot, Content, write, says}
use Rattle.raft_log_model_laws.specs.Table.{content}
use Rattle.raft_log_model_laws.specs.Meaning.Slot.{Index, Key}
use Rattle.raft_log_model_laws.specs.Meaning.Content.{Value}
use Rattle.raft_log_model_laws.proofs.Public.{at_bool, at_option, from_same_key, get_back, get_drop, get_front, get_take, put_sets, run_sets, says_renamed}
use Rattle.raft_log_model_laws.specs.Renamed.{renamed_word}
use Rattle.raft_log_machine_laws.specs.Survival.{IsSpoken}
use Rattle.raft_log_machine_laws.proofs.Public.{differ, spoken_after, spoken_newer}
use Rattle.raft_log_machine_laws.specs.Notes.{IsAppended, IsInRewrite}
use Rattle.raft_log_extents.specs.declared.place.Place.{Place}
use Rattle.raft_log_memtable_index.specs.declared.group_files.GroupFiles.{GroupFiles}
use Rattle.raft_log_memtable_index.specs.Shown.{KeyValue, Shown, with_held, with_run, with_compact, stepped, all_stepped, whereabouts, is_in_append, span, IsOrderly, MayFollow, MayAllFollow}
use Rattle.raft_log_memtable_index.specs.Bridge.{Located, in_queue, bytes_held, table_of, written, Move, moved_run, moved_key, rewritten_value, moved, all_moved, CanMove, CanAllMove, item_of, item_of_key, items_of}
use Rattle.raft_log_memtable_index.specs.Bridge.Move.{MoveRun, MoveKey}
use Rattle.raft_log_memtable_index.specs.Noted.{place_file, held_file, file_at, start_of, noted_at, IsLeastInRewrite, noting, with_note, AllIn, AreInFile, AllUpTo, AreUpTo, AppendedGrow, AppendedShrink, RewrittenStay, RewrittenCarry}
use Rattle.raft_log_memtable_index.proofs.Spans.{run_ends, orderly_stepped}
use Rattle.raft_log_memtable_index.proofs.Grow.{follow_on}
use Rattle.raft_log_memtable_index.proofs.Moving.{move_orderly, moved_length}

pub file_in : (n : ℕ) (ps : List Place) (j : ℕ) → AllIn n ps → j < length ps → place_file (slice_get ps j) ≡ n
file_in n [] j h k = absurd (omega arith)
file_in n (p ∷ ps) zero h k = h.0
file_in n (p ∷ ps) (suc j) h k = file_in n ps j h.1 (omega arith)

file_up_to : (n : ℕ) (ps : List Place) (j : ℕ) → AllUpTo n ps → place_file (slice_get ps j) ≤ n
file_up_to n [] j h = omega arith
file_up_to n (p ∷ ps) zero h = h.0
file_up_to n (p ∷ ps) (suc j) h = file_up_to n ps j h.1

-- a run: what lies below it is where it was
run_first : (a l f i : ℕ) → (if nat_lt a f && nat_lt 0 l then a else f) ≤ i → i < f → (if nat_lt a f && nat_lt 0 l then a else f) ≡ a
run_first a l f i h k = grind (arith, nat_tests)

pub run_above : (a l f : ℕ) → (nat_lt a (a + l) && nat_lt (a + l) f) ≡ false → (if nat_lt a f && nat_lt 0 l then a else f) + min (f - a) l ≡ f
run_above a l f h = grind (arith, nat_tests)

run_within : (a l f i : ℕ) → (nat_lt a (a + l) && nat_lt (a + l) f) ≡ false → a ≤ i → i < f → (if nat_lt a f && nat_lt 0 l then a else f) ≡ a → (f ≤ a + l) ⊎ (l ≡ 0)
run_within a l f i h low high first = elim (cases_lt 0 l) [ inl some ↦ inl (within a l f h some) | inr none ↦ inr (omega arith) ]
  where
    within : (a l f : ℕ) → (nat_lt a (a + l) && nat_lt (a + l) f) ≡ false → 0 < l → f ≤ a + l
    within a l f h some = grind (arith, nat_tests)

run_empty : (a l f i : ℕ) → l ≡ 0 → (if nat_lt a f && nat_lt 0 l then a else f) ≤ i → i < f → ⊥
run_empty a l f i h low high = grind (arith, nat_tests)

module _ (v : Shown) (f : ℕ) (ps : List Place) (fits : (nat_lt v.first (v.first + length v.places) && nat_lt (v.first + length v.places) f) ≡ false) where
  pub below_run : (i : ℕ) → (with_run v f ps).first ≤ i → i < f
      → ((with_run v f ps).first ≡ v.first) × (f ≤ v.first + length v.places) × (file_at (with_run v f ps) (Index i) ≡ file_at v (Index i))
  below_run i low high =
      let first = run_first v.first (length v.places) f i low high in
      let within : f ≤ v.first + length v.places = elim (run_within v.first (length v.places) f i fits (omega (arith, first)) high first) [
        | inl h ↦ h
        | inr none ↦ absurd (run_empty v.first (length v.places) f i none low high)
      ] in (
        first,
        within,
        ap place_file
            (ap (λ n. slice_get (take (f - v.first) v.places ++ ps) (i - n)) first
            ∙ get_front (take (f - v.first) v.places) ps (i - v.first) (let cut = length-take (f - v.first) v.places in omega (arith, first, cut))
            ∙ get_take (f - v.first) v.places (i - v.first) (omega (arith, first))),
      )

  pub in_run : (n i : ℕ) → AllIn n ps → f ≤ i → i < f + length ps → file_at (with_run v f ps) (Index i) ≡ n
  in_run n i all low high =
      let above = run_above v.first (length v.places) f fits in
      ap place_file (get_back (take (f - v.first) v.places) ps (i - (with_run v f ps).first) (i - f) (let cut = length-take (f - v.first) v.places in omega (arith, above, cut)))
      ∙ file_in n ps (i - f) all (omega arith)

pub compact_file : (v : Shown) (c i : ℕ) → (with_compact v c).first ≤ i → i < (with_compact v c).first + length (with_compact v c).places
    → file_at (with_compact v c) (Index i) ≡ file_at v (Index i)
compact_file v c i low high =
    let cut = length-drop (c - v.first) v.places in
    ap place_file (get_drop (c - v.first) v.places (i - (with_compact v c).first)
    ∙ ap (slice_get v.places) (let same : (c - v.first) + (i - (v.first + min (c - v.first) (length v.places))) ≡ i - v.first = omega (arith, cut) in same))

-- one item of Append
step_grows : (n : ℕ) (v : Shown) (x : Item Place (List ℕ)) → IsOrderly v → MayFollow (span v) x → AreInFile n (x ∷ [])
    → (s : Slot) → IsAppended (whereabouts (stepped n v x)) s
    → (IsAppended (whereabouts v) s × (file_at (stepped n v x) s ≡ file_at v s)) ⊎ ((file_at (stepped n v x) s ≡ n) × IsSpoken (write s x))
step_grows n v (Run f []) o h all s a = inl (a, refl)
step_grows n v (Run f (p ∷ ps)) o h all (Index i) a = elim (cases_lt i f) [
  | inl low ↦ (let old = below_run v f (p ∷ ps) h.0 i (let from = a.0 in omega arith) low in
      let parts = o.parts in let from = a.0 in
      inl ((omega (arith, old.0, from, parts), omega (arith, old.1)), old.2))
  | inr high ↦ (let to = a.1 in let ends = run_ends v f (p ∷ ps) h.0 in
      inr (in_run v f (p ∷ ps) h.0 n i all.0 high (omega (arith, to, ends)), (_, run_sets i f (p ∷ ps) high (omega arith))))
]
step_grows n v (Run f (p ∷ ps)) o h all (Key k) a = inl (a, refl)
step_grows n v Clean o h all (Index i) a = absurd (let to = a.1 in omega arith)
step_grows n v Clean o h all (Key k) a = differ (sym a)
step_grows n v (Compact c) o h all (Index i) a =
    let from = a.0 in let to = a.1 in let parts = o.parts in
    inl ((omega (arith, from, to, parts, length-drop (c - v.first) v.places), omega (arith, to, length-drop (c - v.first) v.places)), compact_file v c i (omega (arith, from)) to)
step_grows n v (Compact c) o h all (Key k) a = inl (a, refl)
step_grows n v (Put k w) o h all (Index i) a = inl (a, refl)
step_grows n v (Put k w) o h all (Key q) a =
    at_bool (bytes_eq k q)
    (λ b. is_in_append (if b then Some (record { bytes = w; appended = true; file = n }) else v.held q) ≡ true
    → ((is_in_append (v.held q) ≡ true) × (held_file (if b then Some (record { bytes = w; appended = true; file = n }) else v.held q) ≡ held_file (v.held q)))
    ⊎ ((held_file (if b then Some (record { bytes = w; appended = true; file = n }) else v.held q) ≡ n) × IsSpoken {C = Content Place (List ℕ)} (if b then Some (Some (Value w)) else None)))
    (λ e b. inr (refl, (Some (Value w), refl))) (λ e b. inl (b, refl)) a
step_grows n v (Del k) o h all (Index i) a = inl (a, refl)
step_grows n v (Del k) o h all (Key q) a =
    at_bool (bytes_eq k q)
    (λ b. is_in_append (if b then None else v.held q) ≡ true
    → ((is_in_append (v.held q) ≡ true) × (held_file (if b then None else v.held q) ≡ held_file (v.held q)))
    ⊎ ((held_file (if b then None else v.held q) ≡ n) × IsSpoken {C = Content Place (List ℕ)} (if b then Some None else None)))
    (λ e b. differ (sym b)) (λ e b. inl (b, refl)) a

pub are_in : (n : ℕ) (x : Item Place (List ℕ)) (xs : List (Item Place (List ℕ))) → AreInFile n (x ∷ xs) → AreInFile n (x ∷ []) × AreInFile n xs
are_in n (Run f ps) xs h = ((h.0, tt), h.1)
are_in n Clean xs h = (tt, h)
are_in n (Compact c) xs h = (tt, h)
are_in n (Put k w) xs h = (tt, h)
are_in n (Del k) xs h = (tt, h)

-- item after item
pub appended_grow : (n : ℕ) (v : Shown) (xs : List (Item Place (List ℕ))) → IsOrderly v → MayAllFollow (span v) xs → AreInFile n xs
    → AppendedGrow xs n v (all_stepped n v xs)
appended_grow n v [] o h all s a = inl (a, refl)
appended_grow n v (x ∷ xs) o h all s a =
    let parts = are_in n x xs all in
    elim (appended_grow n (stepped n v x) xs (orderly_stepped n v x o h.0) (follow_on n v x xs h.0 h.1) parts.1 s a) [
      | inr new ↦ inr (new.0, spoken_newer (says s xs) (write s x) (says s (x ∷ xs)) refl new.1)
      | inl old ↦ elim (step_grows n v x o h.0 parts.0 s old.0) [
        | inl older ↦ inl (older.0, old.1 ∙ older.1)
        | inr here ↦ inr (old.1 ∙ here.0, spoken_after (says s xs) (write s x) here.1)
      ]
    ]

pub start_zero : (o : Option GroupFiles) → start_of 0 o ≡ 0
start_zero None = refl
start_zero (Some files) = zero_start files.from files.to
  where
    zero_start : (a b : ℕ) → (if nat_le 0 b then min a 0 else 0) ≡ 0
    zero_start a b = grind (arith, nat_tests)

same_note : (o : Option GroupFiles) (a b : ℕ) → a ≡ b → start_of a o ≤ start_of b o
same_note o a b e = subst (λ n. start_of a o ≤ start_of n o) e (le_refl (start_of a o))

-- it stood there and is noted no later than it was, or nothing is noted
abbrev NotedBefore : Shown → Shown → Slot → Type 0
NotedBefore v u s = (IsInRewrite (whereabouts v) s × (noted_at u s ≤ noted_at v s)) ⊎ (noted_at u s ≡ 0)

-- what stands in Rewrite is noted as it was
step_stays : (n : ℕ) (v : Shown) (x : Item Place (List ℕ)) → IsOrderly v → MayFollow (span v) x
    → (s : Slot) → IsInRewrite (whereabouts (stepped n v x)) s → NotedBefore v (stepped n v x) s
step_stays n v (Run f []) o h s a = inl (a, le_refl (noted_at v s))
step_stays n v (Run f (p ∷ ps)) o h (Index i) a =
    let above = run_above v.first (length v.places) f h.0 in
    let from = a.0 in let to = a.1 in let parts = o.parts in
    let old = below_run v f (p ∷ ps) h.0 i from (omega (arith, to, above, parts)) in
    inl ((omega (arith, old.0, from), omega (arith, old.0, to)), same_note v.noted _ _ old.2)
step_stays n v (Run f (p ∷ ps)) o h (Key k) a = inl (a, le_refl (noted_at v (Key k)))
step_stays n v Clean o h (Index i) a = absurd (let to = a.1 in omega arith)
step_stays n v Clean o h (Key k) a = inr refl
step_stays n v (Compact c) o h (Index i) a =
    let from = a.0 in let to = a.1 in let parts = o.parts in
    inl ((omega (arith, from), omega (arith, to, parts)), same_note v.noted _ _ (compact_file v c i from (omega (arith, to, parts, length-drop (c - v.first) v.places))))
step_stays n v (Compact c) o h (Key k) a = inl (a, le_refl (noted_at v (Key k)))
step_stays n v (Put k w) o h (Index i) a = inl (a, le_refl (noted_at v (Index i)))
step_stays n v (Put k w) o h (Key q) a =
    at_bool (bytes_eq k q)
    (λ b. is_in_append (if b then Some (record { bytes = w; appended = true; file = n }) else v.held q) ≡ false
    → ((is_in_append (v.held q) ≡ false) × (start_of (held_file (if b then Some (record { bytes = w; appended = true; file = n }) else v.held q)) v.noted ≤ noted_at v (Key q)))
    ⊎ (start_of (held_file (if b then Some (record { bytes = w; appended = true; file = n }) else v.held q)) v.noted ≡ 0))
    (λ e b. differ b) (λ e b. inl (b, le_refl (noted_at v (Key q)))) a
step_stays n v (Del k) o h (Index i) a = inl (a, le_refl (noted_at v (Index i)))
step_stays n v (Del k) o h (Key q) a =
    at_bool (bytes_eq k q)
    (λ b. is_in_append (if b then None else v.held q) ≡ false
    → ((is_in_append (v.held q) ≡ false) × (start_of (held_file (if b then None else v.held q)) v.noted ≤ noted_at v (Key q)))
    ⊎ (start_of (held_file (if b then None else v.held q)) v.noted ≡ 0))
    (λ e b. inr (start_zero v.noted)) (λ e b. inl (b, le_refl (noted_at v (Key q)))) a

steps_stay : (n : ℕ) (v : Shown) (xs : List (Item Place (List ℕ))) → IsOrderly v → MayAllFollow (span v) xs
    → (s : Slot) → IsInRewrite (whereabouts (all_stepped n v xs)) s → NotedBefore v (all_stepped n v xs) s
steps_stay n v [] o h s a = inl (a, le_refl (noted_at v s))
steps_stay n v (x ∷ xs) o h s a =
    elim (steps_stay n (stepped n v x) xs (orderly_stepped n v x o h.0) (follow_on n v x xs h.0 h.1) s a) [
      | inr none ↦ inr none
      | inl old ↦ elim (step_stays n v x o h.0 s old.0) [
        | inr none ↦ inr (let low = old.1 in omega (arith, none, low))
        | inl older ↦ inl (older.0, (let low = old.1 in let lower = older.1 in omega (arith, low, lower)))
      ]
    ]

pub rewritten_stay : (n : ℕ) (v : Shown) (xs : List (Item Place (List ℕ))) → IsOrderly v → MayAllFollow (span v) xs → RewrittenStay v (all_stepped n v xs)
rewritten_stay n v xs o h s a = elim (steps_stay n v xs o h s a) [ inl old ↦ old.1 | inr none ↦ omega (arith, none) ]

-- One copy: what it doesn't reach lies where it lay, what it reaches lies at or below that file.
module _ {E : Type 0} (at : Located → E) where
  move_run_files : (v : Shown) (f : ℕ) (ps : List Place) (n i : ℕ) → IsOrderly v → CanMove at v (MoveRun f ps) → AllUpTo n ps → v.first ≤ i → i < f + length ps
      → ((i < f) × (file_at (moved_run v f ps) (Index i) ≡ file_at v (Index i)))
      ⊎ ((file_at (moved_run v f ps) (Index i) ≤ n) × IsSpoken (write {V = List ℕ} (Index i) (Run f (map (λ p. at (in_queue false p)) ps))))
  move_run_files v f ps n i o can all low high =
      let parts = o.parts in let from = can.0 in let split = can.1 in
      let cut : length (take (f - v.first) v.places) ≡ f - v.first = length-take (f - v.first) v.places ∙ omega (arith, parts, from, split) in
      let rest = drop ((f - v.first) + length ps) v.places in
      elim (cases_lt i f) [
        | inl below ↦ inl (below, ap place_file (get_front (take (f - v.first) v.places) (ps ++ rest) (i - v.first) (omega (arith, cut)) ∙ get_take (f - v.first) v.places (i - v.first) (omega arith)))
        | inr above ↦ inr (
          subst (λ o. place_file o ≤ n) (sym (get_back (take (f - v.first) v.places) (ps ++ rest) (i - v.first) (i - f) (omega (arith, cut, from)) ∙ get_front ps rest (i - f) (omega arith))) (file_up_to n ps (i - f) all),
          (_, run_sets i f (map (λ p. at (in_queue false p)) ps) above (let same = length-map ps (λ p. at (in_queue false p)) in omega (arith, same))),
        )
      ]

  move_key_files : (v : Shown) (k q : List ℕ) (n m : ℕ) → n ≤ m → (h : KeyValue) → v.held k ≡ Some h → is_in_append (with_held v.held k (rewritten_value n (v.held k)) q) ≡ false
      → ((is_in_append (v.held q) ≡ false) × (held_file (with_held v.held k (rewritten_value n (v.held k)) q) ≡ held_file (v.held q)))
      ⊎ ((held_file (with_held v.held k (rewritten_value n (v.held k)) q) ≤ m) × IsSpoken (write {E = E} {V = List ℕ} (Key q) (item_of_key k (v.held k))))
  move_key_files v k q n m low h e a =
      at_bool (bytes_eq k q)
      (λ b. bytes_eq k q ≡ b → is_in_append (if b then rewritten_value n (v.held k) else v.held q) ≡ false
      → ((is_in_append (v.held q) ≡ false) × (held_file (if b then rewritten_value n (v.held k) else v.held q) ≡ held_file (v.held q)))
      ⊎ ((held_file (if b then rewritten_value n (v.held k) else v.held q) ≤ m) × IsSpoken (write {E = E} {V = List ℕ} (Key q) (item_of_key k (v.held k)))))
      (λ same _ b. inr (
        subst (λ o. held_file (rewritten_value n o) ≤ m) (sym e) low,
        (Some (Value h.bytes), ap (λ o. write {E = E} {V = List ℕ} (Key q) (item_of_key k o)) e ∙ put_sets k q h.bytes (from_same_key k q same)),
      ))
      (λ other _ b. inl (b, refl)) refl a

  move_files : (v : Shown) (x : Move) (n : ℕ) → IsOrderly v → CanMove at v x → AreUpTo n (x ∷ []) → (s : Slot) → IsInRewrite (whereabouts (moved v x)) s
      → (IsInRewrite (whereabouts v) s × (file_at (moved v x) s ≡ file_at v s)) ⊎ ((file_at (moved v x) s ≤ n) × IsSpoken (write s (item_of at v x)))
  move_files v (MoveRun f ps) n o can all (Index i) a =
      let from = can.0 in let split = can.1 in
      elim (move_run_files v f ps n i o can all.0 a.0 (let to = a.1 in omega (arith, to, from))) [
        | inl old ↦ inl ((a.0, (let below = old.0 in omega (arith, below, split))), old.1)
        | inr new ↦ inr new
      ]
  move_files v (MoveRun f ps) n o can all (Key k) a = inl (a, refl)
  move_files v (MoveKey k file) n o can all (Index i) a = inl (a, refl)
  move_files v (MoveKey k file) n o can all (Key q) a = move_key_files v k q file n all.0 can.0 can.1 a

  up_to : (n : ℕ) (x : Move) (xs : List Move) → AreUpTo n (x ∷ xs) → AreUpTo n (x ∷ []) × AreUpTo n xs
  up_to n (MoveRun f ps) xs h = ((h.0, tt), h.1)
  up_to n (MoveKey k file) xs h = ((h.0, tt), h.1)

  moves_files : (v : Shown) (xs : List Move) (n : ℕ) → IsOrderly v → CanAllMove at v xs → AreUpTo n xs → (s : Slot) → IsInRewrite (whereabouts (all_moved v xs)) s
      → (IsInRewrite (whereabouts v) s × (file_at (all_moved v xs) s ≡ file_at v s)) ⊎ ((file_at (all_moved v xs) s ≤ n) × IsSpoken (says s (items_of at v xs)))
  moves_files v [] n o can all s a = inl (a, refl)
  moves_files v (x ∷ xs) n o can all s a =
      let parts = up_to n x xs all in
      elim (moves_files (moved v x) xs n (move_orderly at v x o can.0) can.1 parts.1 s a) [
        | inr new ↦ inr (new.0, spoken_newer (says s (items_of at (moved v x) xs)) (write s (item_of at v x)) (says s (items_of at v (x ∷ xs))) refl new.1)
        | inl old ↦ elim (move_files v x n o can.0 parts.0 s old.0) [
          | inl older ↦ inl (older.0, old.1 ∙ older.1)
          | inr here ↦ inr (subst (λ k. k ≤ n) (sym old.1) here.0, spoken_after (says s (items_of at (moved v x) xs)) (write s (item_of at v x)) here.1)
        ]
      ]

  moves_note : (v : Shown) (xs : List Move) → (all_moved v xs).noted ≡ v.noted
  moves_note v [] = refl
  moves_note v (MoveRun f ps ∷ xs) = moves_note (moved_run v f ps) xs
  moves_note v (MoveKey k n ∷ xs) = moves_note (moved_key v k n) xs

  start_below : (n : ℕ) (o : Option GroupFiles) → start_of n o ≤ n
  start_below n None = le_refl n
  start_below n (Some files) = below n files.from files.to
    where
      below : (n a b : ℕ) → (if nat_le n b then min a n else n) ≤ n
      below n a b = grind (arith, nat_tests)

  -- copies in a plain record of a file
  pub rewritten_carry : (v : Shown) (xs : List Move) (n : ℕ) → IsOrderly v → CanAllMove at v xs → AreUpTo n xs → RewrittenCarry (items_of at v xs) n v (all_moved v xs)
  rewritten_carry v xs n o can all s a = elim (moves_files v xs n o can all s a) [
    | inl old ↦ inl (old.0, subst (λ noted. start_of (file_at (all_moved v xs) s) noted ≤ noted_at v s) (sym (moves_note v xs)) (same_note v.noted _ _ old.1))
    | inr new ↦ inr ((let low = start_below (file_at (all_moved v xs) s) (all_moved v xs).noted in let file = new.0 in omega (arith, low, file)), new.1)
  ]

  -- a new note moves none up, and covers what lies up to the group's last file
  note_covers : (least n : ℕ) (o : Option GroupFiles) (new : GroupFiles) → n ≤ new.to → start_of n (Some (noting least o new)) ≤ new.from
  note_covers least n None new h = covers n new.from new.to h
    where
      covers : (n a b : ℕ) → n ≤ b → (if nat_le n b then min a n else n) ≤ a
      covers n a b h = grind (arith, nat_tests)
  note_covers least n (Some old) new h =
      at_bool (nat_le least old.to)
      (λ b. start_of n (Some (if b then record { from = min old.from new.from; to = max old.to new.to } else new)) ≤ new.from)
      (λ e. covers n old.from new.from old.to new.to h) (λ e. alone n new.from new.to h)
    where
      covers : (n a b c d : ℕ) → n ≤ d → (if nat_le n (max c d) then min (min a b) n else n) ≤ b
      covers n a b c d h = grind (arith, nat_tests)

      alone : (n a b : ℕ) → n ≤ b → (if nat_le n b then min a n else n) ≤ a
      alone n a b h = grind (arith, nat_tests)

  note_stays : (least n : ℕ) (o : Option GroupFiles) (new : GroupFiles) → (least ≤ n) ⊎ (n ≡ 0) → start_of n (Some (noting least o new)) ≤ start_of n o
  note_stays least n None new h = start_below n (Some new)
  note_stays least n (Some old) new h =
      at_bool (nat_le least old.to)
      (λ b. nat_le least old.to ≡ b → start_of n (Some (if b then record { from = min old.from new.from; to = max old.to new.to } else new)) ≤ start_of n (Some old))
      (λ e _. kept n old.from new.from old.to new.to) (λ e k. elim h [ inl low ↦ past n least old.from old.to new.from new.to k low | inr empty ↦ none n old.from old.to new.from new.to empty ]) refl
    where
      kept : (n a b c d : ℕ) → (if nat_le n (max c d) then min (min a b) n else n) ≤ (if nat_le n c then min a n else n)
      kept n a b c d = grind (arith, nat_tests)

      past : (n l a c b d : ℕ) → nat_le l c ≡ false → l ≤ n → (if nat_le n d then min b n else n) ≤ (if nat_le n c then min a n else n)
      past n l a c b d k h = grind (arith, nat_tests)

      none : (n a c b d : ℕ) → n ≡ 0 → (if nat_le n d then min b n else n) ≤ (if nat_le n c then min a n else n)
      none n a c b d h = grind (arith, nat_tests)

  least_or_none : (u : Shown) (least : ℕ) → IsLeastInRewrite u least → (s : Slot) → IsInRewrite (whereabouts u) s → (least ≤ file_at u s) ⊎ (file_at u s ≡ 0)
  least_or_none u least h (Index i) a = inl (h.0 i a.0 a.1)
  least_or_none u least h (Key k) a =
      at_option (u.held k) (λ o. u.held k ≡ o → is_in_append o ≡ false → (least ≤ held_file o) ⊎ (held_file o ≡ 0))
      (λ e _ b. inr refl) (λ x e same b. inl (h.1 k x same b)) refl a

  -- an atomic group: its files are noted once its copies moved
  pub group_carries : (v : Shown) (xs : List Move) (least : ℕ) (files : GroupFiles) → IsOrderly v → CanAllMove at v xs → AreUpTo files.to xs
      → IsLeastInRewrite (all_moved v xs) least → RewrittenCarry (items_of at v xs) files.from v (with_note (all_moved v xs) least files)
  group_carries v xs least files o can all low s a = elim (moves_files v xs files.to o can all s a) [
    | inl old ↦ inl (
      old.0,
      (let stays = note_stays least (file_at (all_moved v xs) s) (all_moved v xs).noted files (least_or_none (all_moved v xs) least low s a) in
          let was = subst (λ noted. start_of (file_at (all_moved v xs) s) noted ≤ noted_at v s) (sym (moves_note v xs)) (same_note v.noted _ _ old.1) in
          omega (arith, stays, was)),
    )
    | inr new ↦ inr (note_covers least (file_at (all_moved v xs) s) (all_moved v xs).noted files new.0, new.1)
  ]

  -- copies bring nothing into Append
  pub move_shrinks : (v : Shown) (x : Move) → IsOrderly v → CanMove at v x → (s : Slot) → IsAppended (whereabouts (moved v x)) s
      → IsAppended (whereabouts v) s × (file_at (moved v x) s ≡ file_at v s)
  move_shrinks v (MoveRun f ps) o can (Index i) a =
      let parts = o.parts in let from = can.0 in let split = can.1 in let reach = can.2 in let low = a.0 in let high = a.1 in let end = can.3 in
      let n : ℕ = (f - v.first) + length ps in
      let cut : length (take (f - v.first) v.places) ≡ f - v.first = length-take (f - v.first) v.places ∙ omega (arith, parts, from, split) in
      let count : length (moved_run v f ps).places ≡ length v.places = moved_length v f ps from end in
      let rest : n + (i - (v.first + n)) ≡ i - v.first = omega (arith, low) in (
        (omega (arith, low, reach, from), omega (arith, high, count)),
        ap place_file (get_back (take (f - v.first) v.places) (ps ++ drop n v.places) (i - v.first) (length ps + (i - (v.first + n))) (omega (arith, cut, low))
            ∙ get_back ps (drop n v.places) (length ps + (i - (v.first + n))) (i - (v.first + n)) refl
            ∙ get_drop n v.places (i - (v.first + n)) ∙ ap (slice_get v.places) rest),
      )
  move_shrinks v (MoveRun f ps) o can (Key k) a = (a, refl)
  move_shrinks v (MoveKey k n) o can (Index i) a = (a, refl)
  move_shrinks v (MoveKey k n) o can (Key q) a =
      at_bool (bytes_eq k q)
      (λ b. is_in_append (if b then rewritten_value n (v.held k) else v.held q) ≡ true
      → (is_in_append (v.held q) ≡ true) × (held_file (if b then rewritten_value n (v.held k) else v.held q) ≡ held_file (v.held q)))
      (λ e b. differ (sym b ∙ not_appended (v.held k))) (λ e b. (b, refl)) a
    where
      not_appended : (o : Option KeyValue) → is_in_append (rewritten_value n o) ≡ false
      not_appended None = refl
      not_appended (Some x) = refl

  pub appended_shrink : (v : Shown) (xs : List Move) → IsOrderly v → CanAllMove at v xs → AppendedShrink v (all_moved v xs)
  appended_shrink v [] o can s a = (a, refl)
  appended_shrink v (x ∷ xs) o can s a =
      let later = appended_shrink (moved v x) xs (move_orderly at v x o can.0) can.1 s a in
      let here = move_shrinks v x o can.0 s later.0 in
      (here.0, later.1 ∙ here.1)

rise : (l n a b : ℕ) → l ≤ n → (if nat_le l b then min a l else l) ≤ (if nat_le n b then min a n else n)
rise l n a b h = grind (arith, nat_tests)

rises : (l n : ℕ) (o : Option GroupFiles) → l ≤ n → start_of l o ≤ start_of n o
rises l n None h = h
rises l n (Some files) h = rise l n files.from files.to h

-- the least file in use, with the groups that are noted, is no later than what is noted for anything
pub least_is_noted : (v : Shown) (least : ℕ) → IsLeastInRewrite v least → (s : Slot) → IsInRewrite (whereabouts v) s
    → (content (table_of v) s ≡ None) ⊎ (start_of least v.noted ≤ noted_at v s)
least_is_noted v least h (Index i) a = inr (rises least (file_at v (Index i)) v.noted (h.0 i a.0 a.1))
least_is_noted v least h (Key k) a =
    at_option (v.held k)
    (λ o. v.held k ≡ o → is_in_append o ≡ false → (◌≡◌ {A = Option (Content Located (List ℕ))} (option_map Value (bytes_held o)) None) ⊎ (start_of least v.noted ≤ start_of (held_file o) v.noted))
    (λ e _ b. inl refl) (λ x e same b. inr (rises least x.file v.noted (h.1 k x same b))) refl a

spoken_renamed : {E : Type 0} (at : Located → E) (s : Slot) (xs : List (Item Place (List ℕ))) → IsSpoken (says s xs) → IsSpoken (says s (map (written at) xs))
spoken_renamed at s xs h = (_, says_renamed (λ p. at (in_queue true p)) s xs ∙ ap (renamed_word (λ p. at (in_queue true p))) h.1)

-- the same of the bytes at the places
pub written_grow : {E : Type 0} (at : Located → E) (n : ℕ) (v : Shown) (xs : List (Item Place (List ℕ))) → IsOrderly v → MayAllFollow (span v) xs → AreInFile n xs
    → AppendedGrow (map (written at) xs) n v (all_stepped n v xs)
written_grow at n v xs o h all s a = elim (appended_grow n v xs o h all s a) [ inl old ↦ inl old | inr new ↦ inr (new.0, spoken_renamed at s xs new.1) ]
