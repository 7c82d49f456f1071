-- Files don't fall along a group's entries once a whole atomic group moved.
use Rattle.std.proofs.Common.{◌≡◌, ℕ, zero, suc, ◌+◌, ◌-◌, ◌<◌, ◌≤◌, ◌⊎◌, List, [], ◌∷◌, ◌++◌, length, take, drop, Option, slice_get, sym, ap, subst, ◌∙◌, inl, inr, arith, le_refl, length-take}
use Rattle.std.proofs.lemmas.Bool.{cases_lt}
use Rattle.raft_log_model_laws.specs.Item.{Item}
use Rattle.raft_log_model_laws.specs.Item.Item.{Clean, Compact, Del, Put, Run}
use Rattle.raft_log_model_laws.specs.Meaning.Slot.{Index}
use Rattle.raft_log_model_laws.specs.Groups.{of_group}
use Rattle.raft_log_model_laws.proofs.Public.{get_back, get_front, get_take}
use Rattle.raft_log_extents.specs.declared.place.Place.{Place}
use Rattle.raft_log_memtable_index.specs.Shown.{IsOrderly, Shown}
use Rattle.raft_log_memtable_index.specs.Bridge.{CanAllMove, CanMove, Located, all_moved, moved_key, moved_run}
use Rattle.raft_log_memtable_index.specs.Bridge.Move.{MoveKey, MoveRun}
use Rattle.raft_log_memtable_index.specs.Noted.{AllIn, AllUpTo, AreInFile, AreUpTo, FilesRise, file_at, place_file}
use Rattle.raft_log_memtable_index.proofs.Public.{are_in, copies_rise, move_orderly, move_shrinks}
use Rattle.raft_log_record_batches.specs.Batch.{block_place}
use Rattle.raft_log_block_cache.specs.raft_log_memtables.proofs.Public.{written_in}
use Rattle.raft_log_engine_laws.specs.Writing.{items_at}
use Rattle.raft_log_engine_laws.specs.Parts.{FilesGoUp, WrittenPart}
use Rattle.raft_log_engine_laws.specs.Whole.{Filed, IsWholeCopy, MovedFilesRise, RunPiece, all_places, filed_in, filed_items, filed_moves, in_one, in_pieces, whole_moves}
use Rattle.raft_log_engine_laws.proofs.Whole.{whole_moved}

-- Files of places, one after another.

-- they don't fall, from the one number to the other
abbrev pub PlacesGoUp : ℕ → ℕ → List Place → Type 0
PlacesGoUp low high [] = low ≤ high
PlacesGoUp low high (p ∷ ps) = (low ≤ p.file) × PlacesGoUp p.file high ps

pub places_span : (low high : ℕ) (ps : List Place) → PlacesGoUp low high ps → low ≤ high
places_span low high [] h = h
places_span low high (p ∷ ps) (first, rest) = (let on = places_span p.file high ps rest in omega (arith, first, on))

from_lower : (low less high : ℕ) (ps : List Place) → less ≤ low → PlacesGoUp low high ps → PlacesGoUp less high ps
from_lower low less high [] below h = omega (arith, below, h)
from_lower low less high (p ∷ ps) below (first, rest) = (omega (arith, below, first), rest)

in_file_then : (low n high : ℕ) (qs ps : List Place) → low ≤ n → AllIn n qs → PlacesGoUp n high ps → PlacesGoUp low high (qs ++ ps)
in_file_then low n high [] ps below all rest = from_lower n low high ps below rest
in_file_then low n high (q ∷ qs) ps below (is, all) rest =
    (omega (arith, below, is), in_file_then q.file n high qs ps (omega (arith, is)) all rest)

lowest : (low high : ℕ) (ps : List Place) (j : ℕ) → PlacesGoUp low high ps → j < length ps → low ≤ place_file (slice_get ps j)
lowest low high [] j h within = absurd (omega (arith, within))
lowest low high (p ∷ ps) zero (first, rest) within = first
lowest low high (p ∷ ps) (suc j) (first, rest) within = (let on = lowest p.file high ps j rest (omega (arith, within)) in omega (arith, first, on))

highest : (low high : ℕ) (ps : List Place) (j : ℕ) → PlacesGoUp low high ps → j < length ps → place_file (slice_get ps j) ≤ high
highest low high [] j h within = absurd (omega (arith, within))
highest low high (p ∷ ps) zero (first, rest) within = places_span p.file high ps rest
highest low high (p ∷ ps) (suc j) (first, rest) within = highest p.file high ps j rest (omega (arith, within))

going_up : (low high : ℕ) (ps : List Place) (i j : ℕ) → PlacesGoUp low high ps → i ≤ j → j < length ps → place_file (slice_get ps i) ≤ place_file (slice_get ps j)
going_up low high [] i j h between within = absurd (omega (arith, within))
going_up low high (p ∷ ps) zero zero h between within = le_refl p.file
going_up low high (p ∷ ps) zero (suc j) (first, rest) between within = lowest p.file high ps j rest (omega (arith, within))
going_up low high (p ∷ ps) (suc i) zero h between within = absurd (omega (arith, between))
going_up low high (p ∷ ps) (suc i) (suc j) (first, rest) between within = going_up p.file high ps i j rest (omega (arith, between)) (omega (arith, within))

-- A run in several files.
module _ {E : Type 0} (at : Located → E) (a r low high : ℕ) (v : Shown) (f : ℕ) (ps : List Place) (o : IsOrderly v) (rise : FilesRise a r v) (later : r ≤ low) (can : CanMove at v (MoveRun f ps)) (up : PlacesGoUp low high ps) where
  moved_file : (i : ℕ) → v.first ≤ i → i < f + length ps
      → ((i < f) × (file_at (moved_run v f ps) (Index i) ≡ file_at v (Index i))) ⊎ ((f ≤ i) × (file_at (moved_run v f ps) (Index i) ≡ place_file (slice_get ps (i - f))))
  moved_file i from within =
      let parts = o.parts in let start = can.0 in let split = can.1 in
      let cut : length (take (f - v.first) v.places) ≡ f - v.first = length-take (f - v.first) v.places ∙ omega (arith, parts, start, split) in
      let rest = drop ((f - v.first) + length ps) v.places in
      elim (cases_lt i f) [
        | inl under ↦ inl (under, ap place_file (get_front (take (f - v.first) v.places) (ps ++ rest) (i - v.first) (omega (arith, cut, under, from)) ∙ get_take (f - v.first) v.places (i - v.first) (omega (arith, under, from))))
        | inr over ↦ inr (over, ap place_file (get_back (take (f - v.first) v.places) (ps ++ rest) (i - v.first) (i - f) (omega (arith, cut, start, over)) ∙ get_front ps rest (i - f) (omega (arith, over, within))))
      ]

  pub run_rises : FilesRise a high (moved_run v f ps)
  run_rises =
      let start = can.0 in let split = can.1 in let reach = can.2 in let spans = places_span low high ps up in
      record {
        appended = λ i j from between to.
            let x = move_shrinks at v (MoveRun f ps) o can (Index i) (from, omega (arith, between, to)) in
            let y = move_shrinks at v (MoveRun f ps) o can (Index j) (omega (arith, from, between), to) in
            let was = rise.appended i j x.0.0 between y.0.1 in let here = x.1 in let there = y.1 in omega (arith, was, here, there);
        rewritten = λ i j from between to. elim (moved_file j (omega (arith, from, between)) (omega (arith, start, to))) [
          | inl old ↦ elim (moved_file i from (omega (arith, start, between, to))) [
            | inl older ↦ (let was = rise.rewritten i j from between (let under = old.0 in omega (arith, under, split)) in let here = older.1 in let there = old.1 in omega (arith, was, here, there))
            | inr new ↦ absurd (let under = old.0 in let over = new.0 in omega (arith, under, over, between))
          ]
          | inr new ↦ elim (moved_file i from (omega (arith, start, between, to))) [
            | inl older ↦
                (let was = rise.in_rewrite i from (let under = older.0 in omega (arith, under, split)) in
                let least = lowest low high ps (j - f) up (let over = new.0 in omega (arith, over, start, to)) in
                let here = older.1 in let there = new.1 in omega (arith, was, least, later, here, there))
            | inr both ↦
                (let was = going_up low high ps (i - f) (j - f) up (omega (arith, between)) (let over = new.0 in omega (arith, over, start, to)) in
                let here = both.1 in let there = new.1 in omega (arith, was, here, there))
          ]
        ];
        in_append = λ i from to.
            let x = move_shrinks at v (MoveRun f ps) o can (Index i) (from, to) in
            let was = rise.in_append i x.0.0 x.0.1 in let here = x.1 in omega (arith, was, here);
        in_rewrite = λ i from to. elim (moved_file i from (omega (arith, start, to))) [
          | inl old ↦ (let was = rise.in_rewrite i from (let under = old.0 in omega (arith, under, split)) in let here = old.1 in omega (arith, was, later, spans, here))
          | inr new ↦ (let most = highest low high ps (i - f) up (let over = new.0 in omega (arith, over, start, to)) in let here = new.1 in omega (arith, most, here))
        ];
      }

-- The items of parts.

-- their files don't fall, and each item's entries lie in its file
abbrev pub FiledGoUp : ℕ → ℕ → List Filed → Type 0
FiledGoUp low high [] = low ≤ high
FiledGoUp low high (x ∷ xs) = (low ≤ x.file) × AreInFile x.file (x.item ∷ []) × FiledGoUp x.file high xs

filed_lower : (low less high : ℕ) (xs : List Filed) → less ≤ low → FiledGoUp low high xs → FiledGoUp less high xs
filed_lower low less high [] below h = omega (arith, below, h)
filed_lower low less high (x ∷ xs) below (first, lie, rest) = (omega (arith, below, first), lie, rest)

one_record : (low n high : ℕ) (xs : List (Item Place (List ℕ))) (ys : List Filed) → low ≤ n → AreInFile n xs → FiledGoUp n high ys → FiledGoUp low high (filed_in n xs ++ ys)
one_record low n high [] ys below lie rest = filed_lower n low high ys below rest
one_record low n high (x ∷ xs) ys below lie rest =
    let each = are_in n x xs lie in (below, each.0, one_record n n high xs ys (le_refl n) each.1 rest)

pub parts_go_up : (low high g : ℕ) (ps : List WrittenPart) → FilesGoUp low high ps → FiledGoUp low high (filed_items g ps)
parts_go_up low high g [] h = h
parts_go_up low high g (p ∷ ps) (first, rest) =
    one_record low p.block.id.seq high (of_group g (items_at p.block p.batch)) (filed_items g ps) first (written_in (block_place p.block p.batch.entries) p.batch.items g) (parts_go_up p.block.id.seq high g ps rest)

-- a run in pieces, and what stands behind it
record Between (low high : ℕ) (ps : List Place) (rest : List Filed) : Type 0 where
  mid : ℕ
  front : PlacesGoUp low mid ps
  back : FiledGoUp mid high rest

pieces_go_up : (low high f : ℕ) (ps : List RunPiece) (rest : List Filed) → FiledGoUp low high (in_pieces f ps ++ rest) → Between low high (all_places ps) rest
pieces_go_up low high f [] rest h = record { mid = low; front = le_refl low; back = h }
pieces_go_up low high f (p ∷ ps) rest (first, lie, others) =
    let on = pieces_go_up p.file high (f + length p.places) ps rest others in
    record { mid = on.mid; front = in_file_then low p.file on.mid p.places (all_places ps) first lie.0 on.front; back = on.back }

-- Other copies, each in one file.
module _ {E : Type 0} (at : Located → E) (a : ℕ) where
  up_to : (r n : ℕ) (v : Shown) → r ≤ n → FilesRise a r v → FilesRise a n v
  up_to r n v later rise = record {
    appended = rise.appended;
    rewritten = rise.rewritten;
    in_append = rise.in_append;
    in_rewrite = λ i from to. (let was = rise.in_rewrite i from to in omega (arith, was, later));
  }

  one_rises : (r n high : ℕ) (v : Shown) (x : Item Place (List ℕ)) (xs : List Filed) → IsOrderly v → FilesRise a r v → r ≤ n → AreInFile n (x ∷ []) → FiledGoUp n high xs
      → ((u : Shown) → IsOrderly u → FilesRise a n u → CanAllMove at u (filed_moves xs) → FilesRise a high (all_moved u (filed_moves xs)))
      → CanAllMove at v (filed_moves (record { file = n; item = x } ∷ xs)) → FilesRise a high (all_moved v (filed_moves (record { file = n; item = x } ∷ xs)))
  one_rises r n high v (Run f ps) xs o rise later lie up again can =
      again (moved_run v f ps) (move_orderly at v (MoveRun f ps) o can.0) (copies_rise at a r n v (MoveRun f ps ∷ []) o rise later (can.0, tt) lie) can.1
  one_rises r n high v (Put k w) xs o rise later lie up again can =
      again (moved_key v k n) (move_orderly at v (MoveKey k n) o can.0) (copies_rise at a r n v (MoveKey k n ∷ []) o rise later (can.0, tt) tt) can.1
  one_rises r n high v Clean xs o rise later lie up again can = again v o (up_to r n v later rise) can
  one_rises r n high v (Compact c) xs o rise later lie up again can = again v o (up_to r n v later rise) can
  one_rises r n high v (Del k) xs o rise later lie up again can = again v o (up_to r n v later rise) can

  filed_rise : (r low high : ℕ) (v : Shown) (xs : List Filed) → IsOrderly v → FilesRise a r v → r ≤ low → FiledGoUp low high xs → CanAllMove at v (filed_moves xs)
      → FilesRise a high (all_moved v (filed_moves xs))
  filed_rise r low high v [] o rise later up can = up_to r high v (omega (arith, later, up)) rise
  filed_rise r low high v (x ∷ xs) o rise later up can =
      let first = up.0 in
      one_rises r x.file high v x.item xs o rise (omega (arith, later, first)) up.1 up.2
      (λ u p q c. filed_rise x.file x.file high u xs p q (le_refl x.file) up.2 c) can

  whole_rises : (r high f : ℕ) (v : Shown) (ps : List RunPiece) (rest : List Filed) → IsOrderly v → FilesRise a r v → FiledGoUp r high (in_pieces f ps ++ rest)
      → CanAllMove at v (filed_moves (in_one f ps ++ rest)) → FilesRise a high (all_moved v (filed_moves (in_one f ps ++ rest)))
  whole_rises r high f v [] rest o rise up can = filed_rise r r high v rest o rise (le_refl r) up can
  whole_rises r high f v (p ∷ ps) rest o rise up can =
      let on = pieces_go_up r high f (p ∷ ps) rest up in
      filed_rise on.mid on.mid high (moved_run v f (all_places (p ∷ ps))) rest (move_orderly at v (MoveRun f (all_places (p ∷ ps))) o can.0)
      (run_rises at a r r on.mid v f (all_places (p ∷ ps)) o rise (le_refl r) can.0 on.front) (le_refl on.mid) on.back can.1

pub moved_rise : {E : Type 0} → MovedFilesRise E
moved_rise at gate a r n v g ps o rise up w =
    let whole = whole_moved at gate v g ps o w in
    subst (λ u. FilesRise a n u) (sym whole.0)
    (whole_rises at a r n w.first v w.pieces w.rest o rise (subst (λ xs. FiledGoUp r n xs) w.items (parts_go_up r n g ps up)) whole.1)

-- The files of the copies.

places_up_to : (low high n : ℕ) (ps : List Place) → high ≤ n → PlacesGoUp low high ps → AllUpTo n ps
places_up_to low high n [] most h = tt
places_up_to low high n (p ∷ ps) most (first, rest) = (let on = places_span p.file high ps rest in omega (arith, on, most), places_up_to p.file high n ps most rest)

file_up_to : (n m : ℕ) (ps : List Place) → n ≤ m → AllIn n ps → AllUpTo m ps
file_up_to n m [] most all = tt
file_up_to n m (p ∷ ps) most (is, all) = (omega (arith, is, most), file_up_to n m ps most all)

filed_span : (low high : ℕ) (xs : List Filed) → FiledGoUp low high xs → low ≤ high
filed_span low high [] h = h
filed_span low high (x ∷ xs) (first, lie, rest) = (let on = filed_span x.file high xs rest in omega (arith, first, on))

one_up_to : (n high : ℕ) (x : Item Place (List ℕ)) (xs : List Filed) → AreInFile n (x ∷ []) → n ≤ high → AreUpTo high (filed_moves xs) → AreUpTo high (filed_moves (record { file = n; item = x } ∷ xs))
one_up_to n high (Run f ps) xs lie most rest = (file_up_to n high ps most lie.0, rest)
one_up_to n high (Put k w) xs lie most rest = (most, rest)
one_up_to n high Clean xs lie most rest = rest
one_up_to n high (Compact c) xs lie most rest = rest
one_up_to n high (Del k) xs lie most rest = rest

filed_up_to : (low high : ℕ) (xs : List Filed) → FiledGoUp low high xs → AreUpTo high (filed_moves xs)
filed_up_to low high [] h = tt
filed_up_to low high (x ∷ xs) (first, lie, rest) = one_up_to x.file high x.item xs lie (filed_span x.file high xs rest) (filed_up_to x.file high xs rest)

in_one_up_to : (low high f : ℕ) (ps : List RunPiece) (rest : List Filed) → FiledGoUp low high (in_pieces f ps ++ rest) → AreUpTo high (filed_moves (in_one f ps ++ rest))
in_one_up_to low high f [] rest h = filed_up_to low high rest h
in_one_up_to low high f (p ∷ ps) rest h =
    let on = pieces_go_up low high f (p ∷ ps) rest h in
    (places_up_to low on.mid high (all_places (p ∷ ps)) (filed_span on.mid high rest on.back) on.front, filed_up_to on.mid high rest on.back)

pub whole_up_to : {E : Type 0} (at : Located → E) (gate : Option ℕ) (low high : ℕ) (v : Shown) (g : ℕ) (ps : List WrittenPart) → FilesGoUp low high ps → (w : IsWholeCopy at gate v (filed_items g ps)) → AreUpTo high (whole_moves w)
whole_up_to at gate low high v g ps up w = in_one_up_to low high w.first w.pieces w.rest (subst (λ xs. FiledGoUp low high xs) w.items (parts_go_up low high g ps up))
