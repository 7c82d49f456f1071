-- What a whole group moves.
use Rattle.std.proofs.Common.{◌≡◌, ℕ, zero, suc, ◌+◌, ◌-◌, ◌≤◌, max, false, List, [], ◌∷◌, ◌++◌, length, map, take, drop, Option, None, Some, if◌then◌else◌, nat_le, nat_lt, refl, sym, ap, subst, ◌∙◌, inl, inr, arith, append_assoc, append-nil, length-append, length-take}
use Rattle.std.specs.Option.{option_or}
use Rattle.std.proofs.lemmas.Bool.{cases_lt}
use Rattle.std.proofs.lemmas.List.{drop-drop, drop_at, length-map, map-append, take-append-drop, take_all, take_at}
use Rattle.raft_log_model_laws.specs.Item.{Item}
use Rattle.raft_log_model_laws.specs.Item.Item.{Clean, Compact, Del, Put, Run}
use Rattle.raft_log_model_laws.specs.Meaning.{Slot, says, write}
use Rattle.raft_log_model_laws.specs.Meaning.Slot.{Index, Key}
use Rattle.raft_log_model_laws.specs.Groups.{of_group}
use Rattle.raft_log_model_laws.proofs.Public.{at_bool, if_false, lt_false}
use Rattle.raft_log_machine_laws.specs.Machine.{IsJoined}
use Rattle.raft_log_machine_laws.proofs.Public.{joined_behind, joined_same, joined_twice, option_or_none, two_runs}
use Rattle.raft_log_extents.specs.declared.place.Place.{Place}
use Rattle.raft_log_extents.specs.Counts.{passing}
use Rattle.raft_log_memtable_index.specs.Shown.{IsOrderly, Shown}
use Rattle.raft_log_memtable_index.specs.Bridge.{CanAllMove, Located, all_moved, in_queue, item_of, items_of as copies_of, moved_key, moved_run}
use Rattle.raft_log_memtable_index.specs.Bridge.Move.{MoveKey, MoveRun}
use Rattle.raft_log_memtable_index.proofs.Public.{move_orderly}
use Rattle.raft_log_memtable.specs.Moves.{gated, movable, rewritten_at, rewritten_by}
use Rattle.raft_log_block_cache.specs.raft_log_memtables.specs.Rewriting.{IsCopy, all_rewritten, rewritten_item}
use Rattle.raft_log_block_cache.specs.raft_log_memtables.proofs.Public.{copies_move, gated_first, run_moves}
use Rattle.raft_log_engine_laws.specs.Writing.{items_at}
use Rattle.raft_log_engine_laws.specs.Parts.{WrittenPart}
use Rattle.raft_log_engine_laws.specs.Whole.{AreFiledCopies, Filed, RunPiece, WholeGroupsAreMoved, all_places, filed_in, filed_copies, filed_items, filed_moves, in_one, in_pieces, parts_moved}

-- Item after item.

-- what shows once the items moved
abbrev pub all_filed : Option ℕ → Shown → List Filed → Shown
all_filed gate v [] = v
all_filed gate v (x ∷ xs) = all_filed gate (rewritten_item gate x.file v x.item) xs

pub one_part : (gate : Option ℕ) (n : ℕ) (v : Shown) (xs : List (Item Place (List ℕ))) (ys : List Filed) → all_filed gate v (filed_in n xs ++ ys) ≡ all_filed gate (all_rewritten gate n v xs) ys
one_part gate n v [] ys = refl
one_part gate n v (x ∷ xs) ys = one_part gate n (rewritten_item gate n v x) xs ys

pub all_parts : (gate : Option ℕ) (g : ℕ) (ps : List WrittenPart) (v : Shown) → parts_moved gate g ps v ≡ all_filed gate v (filed_items g ps)
all_parts gate g [] v = refl
all_parts gate g (p ∷ ps) v =
    all_parts gate g ps (all_rewritten gate p.block.id.seq v (of_group g (items_at p.block p.batch)))
    ∙ sym (one_part gate p.block.id.seq v (of_group g (items_at p.block p.batch)) (filed_items g ps))

-- copies move as the machine's do, each in its file
abbrev pub MoveTogether : {E : Type 0} → (Located → E) → Option ℕ → Shown → List Filed → Type 0
MoveTogether at gate v xs =
    (all_filed gate v xs ≡ all_moved v (filed_moves xs)) × CanAllMove at v (filed_moves xs) × (copies_of at v (filed_moves xs) ≡ filed_copies at xs)

module _ {E : Type 0} (at : Located → E) (gate : Option ℕ) where
  one_moves : (v : Shown) (n : ℕ) (x : Item Place (List ℕ)) (xs : List Filed) → IsOrderly v → IsCopy at gate v x
      → ((u : Shown) → IsOrderly u → AreFiledCopies at gate u xs → MoveTogether at gate u xs) → AreFiledCopies at gate (rewritten_item gate n v x) xs
      → MoveTogether at gate v (record { file = n; item = x } ∷ xs)
  one_moves v n (Run f ps) xs o is again rest =
      let one = copies_move at gate n v (Run f ps ∷ []) o (is, tt) in
      let others = again (moved_run v f ps) (move_orderly at v (MoveRun f ps) o one.1.0) (subst (λ u. AreFiledCopies at gate u xs) one.0 rest) in (
        ap (λ u. all_filed gate u xs) one.0 ∙ others.0,
        (one.1.0, others.1),
        ap (λ l. item_of at v (MoveRun f ps) ∷ l) others.2,
      )
  one_moves v n (Put k w) xs o is again rest =
      let one = copies_move at gate n v (Put k w ∷ []) o (is, tt) in
      let others = again (moved_key v k n) (move_orderly at v (MoveKey k n) o one.1.0) (subst (λ u. AreFiledCopies at gate u xs) one.0 rest) in (
        ap (λ u. all_filed gate u xs) one.0 ∙ others.0,
        (one.1.0, others.1),
        ap (λ l. item_of at v (MoveKey k n) ∷ l) others.2 ∙ ap (λ l. l ++ filed_copies at xs) one.2,
      )
  one_moves v n Clean xs o is again rest = absurd is
  one_moves v n (Compact c) xs o is again rest = absurd is
  one_moves v n (Del k) xs o is again rest = absurd is

  pub filed_move : (v : Shown) (xs : List Filed) → IsOrderly v → AreFiledCopies at gate v xs → MoveTogether at gate v xs
  filed_move v [] o h = (refl, tt, refl)
  filed_move v (x ∷ xs) o h = one_moves v x.file x.item xs o h.0 (λ u p q. filed_move u xs p q) h.1

-- Pieces of a run move as the run does.

passing_drop : (gate m : ℕ) (ps : List Place) → passing gate ps ≤ m + passing gate (drop m ps)
passing_drop gate zero ps = omega arith
passing_drop gate (suc m) [] = omega arith
passing_drop gate (suc m) (p ∷ ps) =
    at_bool (nat_le p.file gate) (λ b. (if b then suc (passing gate ps) else 0) ≤ suc m + passing gate (drop m ps))
    (λ _. let rest = passing_drop gate m ps in omega (arith, rest)) (λ _. omega arith)

-- of those that pass the gate no more than so many are in front
gated_drop : (gate : Option ℕ) (m : ℕ) (ps : List Place) → gated gate ps ≤ m + gated gate (drop m ps)
gated_drop None m ps = omega arith
gated_drop (Some gate) m ps = passing_drop gate m ps

module _ (gate : Option ℕ) (v : Shown) (d : ℕ) (low : d ≤ v.rewritten) (parts : v.rewritten ≤ length v.places) where
  -- once pieces moved, from that position on
  abbrev so_far : List Place → Shown
  so_far acc = rewritten_at v d acc

  module _ (acc : List Place) where
    abbrev k : ℕ
    k = d + length acc

    front_long : length (take d v.places ++ acc) ≡ k
    front_long = (let both = length-append (take d v.places) acc in let cut = length-take d v.places in omega (arith, both, cut, low, parts))

    in_two : (so_far acc).places ≡ (take d v.places ++ acc) ++ drop k v.places
    in_two = sym (append_assoc (take d v.places) acc (drop k v.places))

    in_front : take k (so_far acc).places ≡ take d v.places ++ acc
    in_front = ap (take k) in_two ∙ take_at (take d v.places ++ acc) (drop k v.places) k front_long

    behind : (j : ℕ) → drop (k + j) (so_far acc).places ≡ drop (k + j) v.places
    behind j =
        sym (drop-drop j k (so_far acc).places) ∙ ap (drop j) (ap (drop k) in_two ∙ drop_at (take d v.places ++ acc) (drop k v.places) k front_long) ∙ drop-drop j k v.places

    past : drop (so_far acc).rewritten (so_far acc).places ≡ drop (so_far acc).rewritten v.places
    past =
        let r : ℕ = max v.rewritten k in
        let split : r ≡ k + (r - k) = omega arith in
        ap (λ n. drop n (so_far acc).places) split ∙ behind (r - k) ∙ ap (λ n. drop n v.places) (sym split)

    module _ (qs : List Place) (fits : k + length qs ≤ v.rewritten + gated gate (drop v.rewritten v.places)) where
      -- so many of the next piece stand in Append
      abbrev over : ℕ
      over = length qs - (max v.rewritten k - k)

      enough : over ≤ gated gate (drop (max v.rewritten k) v.places)
      enough = elim (cases_lt v.rewritten k) [
        | inl short ↦
            (let reach : max v.rewritten k ≡ k = omega (arith, short) in
            let skip : v.rewritten + (k - v.rewritten) ≡ k = omega (arith, short) in
            let same = ap (λ n. gated gate (drop n v.places)) reach in
            let more = gated_drop gate (k - v.rewritten) (drop v.rewritten v.places) in
            let there = ap (gated gate) (drop-drop (k - v.rewritten) v.rewritten v.places ∙ ap (λ n. drop n v.places) skip) in
            omega (arith, short, reach, same, more, there, fits))
        | inr long ↦
            (let reach : max v.rewritten k ≡ v.rewritten = omega (arith, long) in
            let same = ap (λ n. gated gate (drop n v.places)) reach in
            omega (arith, long, reach, same, fits))
      ]

      all_move : movable (so_far acc) gate k (length qs) ≡ length qs
      all_move =
          let more = ap (λ l. gated gate (take over l)) past ∙ gated_first gate over (drop (max v.rewritten k) v.places) enough in omega (arith, more)

      behind_next : drop (k + length qs) (so_far acc).places ≡ drop (d + length (acc ++ qs)) v.places
      behind_next = behind (length qs) ∙ ap (λ n. drop n v.places) (let both = length-append acc qs in let same : k + length qs ≡ d + length (acc ++ qs) = omega (arith, both) in same)

      next_places : take k (so_far acc).places ++ (qs ++ drop (k + length qs) (so_far acc).places) ≡ take d v.places ++ ((acc ++ qs) ++ drop (d + length (acc ++ qs)) v.places)
      next_places =
          ap (λ l. l ++ (qs ++ drop (k + length qs) (so_far acc).places)) in_front ∙ ap (λ l. (take d v.places ++ acc) ++ (qs ++ l)) behind_next
          ∙ append_assoc (take d v.places) acc (qs ++ drop (d + length (acc ++ qs)) v.places)
          ∙ ap (λ l. take d v.places ++ l) (sym (append_assoc acc qs (drop (d + length (acc ++ qs)) v.places)))

      next_count : max (max v.rewritten k) (k + length qs) ≡ max v.rewritten (d + length (acc ++ qs))
      next_count = (let both = length-append acc qs in omega (arith, both))

      next_at : rewritten_at (so_far acc) k qs ≡ so_far (acc ++ qs)
      next_at =
          ap (λ l. record v { places = l; rewritten = max (max v.rewritten k) (k + length qs) }) next_places
          ∙ ap (λ n. record v { places = take d v.places ++ ((acc ++ qs) ++ drop (d + length (acc ++ qs)) v.places); rewritten = n }) next_count

      next_moves : rewritten_by gate (so_far acc) (Run (v.first + k) qs) ≡ so_far (acc ++ qs)
      next_moves =
          let w : Shown = so_far acc in
          let f : ℕ = v.first + k in
          let none : v.first - f ≡ 0 = omega arith in
          let far : f - v.first ≡ k = omega arith in
          if_false (nat_lt w.rewritten (f - v.first)) w (rewritten_at w (f - v.first) (take (movable w gate (f - v.first) (length (drop (v.first - f) qs))) (drop (v.first - f) qs)))
          (lt_false w.rewritten (f - v.first) (omega (arith, far)))
          ∙ ap (λ n. rewritten_at w (f - v.first) (take (movable w gate (f - v.first) (length (drop n qs))) (drop n qs))) none
          ∙ ap (λ n. rewritten_at w n (take (movable w gate n (length qs)) qs)) far
          ∙ ap (rewritten_at w k) (ap (λ n. take n qs) all_move ∙ take_all (length qs) qs (omega arith))
          ∙ next_at

  pieces_move : (acc : List Place) (ps : List RunPiece) (rest : List Filed) → (d + length acc) + length (all_places ps) ≤ v.rewritten + gated gate (drop v.rewritten v.places)
      → all_filed gate (so_far acc) (in_pieces (v.first + (d + length acc)) ps ++ rest) ≡ all_filed gate (so_far (acc ++ all_places ps)) rest
  pieces_move acc [] rest fits = ap (λ l. all_filed gate (so_far l) rest) (sym (append-nil acc))
  pieces_move acc (p ∷ ps) rest fits =
      let here = length-append p.places (all_places ps) in
      let long = length-append acc p.places in
      let on : (v.first + (d + length acc)) + length p.places ≡ v.first + (d + length (acc ++ p.places)) = omega (arith, long) in
      ap (λ u. all_filed gate u (in_pieces ((v.first + (d + length acc)) + length p.places) ps ++ rest)) (next_moves acc p.places (omega (arith, fits, here)))
      ∙ ap (λ n. all_filed gate (so_far (acc ++ p.places)) (in_pieces n ps ++ rest)) on
      ∙ pieces_move (acc ++ p.places) ps rest (omega (arith, fits, here, long))
      ∙ ap (λ l. all_filed gate (so_far l) rest) (append_assoc acc p.places (all_places ps))

  none_yet : v ≡ so_far []
  none_yet =
      let zero_more : d + 0 ≡ d = omega arith in
      let same : v.rewritten ≡ max v.rewritten (d + 0) = omega (arith, low) in
      ap (λ l. record v { places = l; rewritten = v.rewritten }) (sym (ap (λ n. take d v.places ++ drop n v.places) zero_more ∙ take-append-drop d v.places))
      ∙ ap (λ n. record v { places = take d v.places ++ drop (d + 0) v.places; rewritten = n }) same

-- pieces from the first entry on, none past what stands in Rewrite
pub first_pieces_move : (gate : Option ℕ) (v : Shown) (ps : List RunPiece) (rest : List Filed) → IsOrderly v → length (all_places ps) ≤ v.rewritten
    → all_filed gate v (in_pieces v.first ps ++ rest) ≡ all_filed gate (rewritten_at v 0 (all_places ps)) rest
first_pieces_move gate v ps rest o few =
    let parts = o.parts in
    let low : 0 ≤ v.rewritten = omega arith in
    let begin : v.first ≡ v.first + (0 + 0) = omega arith in
    ap (λ u. all_filed gate u (in_pieces v.first ps ++ rest)) (none_yet gate v 0 low parts)
    ∙ ap (λ n. all_filed gate (rewritten_at v 0 []) (in_pieces n ps ++ rest)) begin
    ∙ pieces_move gate v 0 low parts [] ps rest (omega (arith, few))

module _ {E : Type 0} (at : Located → E) (gate : Option ℕ) (v : Shown) (o : IsOrderly v) where
  whole_run : (f : ℕ) (ps : List RunPiece) (rest : List Filed) → IsCopy at gate v (Run f (all_places ps)) → all_filed gate v (in_pieces f ps ++ rest) ≡ all_filed gate (rewritten_by gate v (Run f (all_places ps))) rest
  whole_run f ps rest is =
      let d : ℕ = f - v.first in
      let from = is.0 in let split = is.1 in let reach = is.2 in let high = is.3 in let parts = o.parts in
      let low : d ≤ v.rewritten = omega (arith, from, split) in
      let begin : f ≡ v.first + (d + 0) = omega (arith, from) in
      let count : max v.rewritten (d + length (all_places ps)) ≡ d + length (all_places ps) = omega (arith, from, reach) in
      ap (λ u. all_filed gate u (in_pieces f ps ++ rest)) (none_yet gate v d low parts)
      ∙ ap (λ n. all_filed gate (rewritten_at v d []) (in_pieces n ps ++ rest)) begin
      ∙ pieces_move gate v d low parts [] ps rest (omega (arith, from, high))
      ∙ ap (λ n. all_filed gate (record v { places = take d v.places ++ (all_places ps ++ drop (d + length (all_places ps)) v.places); rewritten = n }) rest) count
      ∙ ap (λ u. all_filed gate u rest) (sym (run_moves gate v f (all_places ps) from split reach high))

  in_one_moves : (f : ℕ) (ps : List RunPiece) (rest : List Filed) → AreFiledCopies at gate v (in_one f ps ++ rest) → all_filed gate v (in_pieces f ps ++ rest) ≡ all_filed gate v (in_one f ps ++ rest)
  in_one_moves f [] rest are = refl
  in_one_moves f (p ∷ ps) rest are = whole_run f (p ∷ ps) rest are.0

-- What the pieces say is what the run says.

module _ {E V : Type 0} where
  -- an empty run says nothing
  empty_word : (f : ℕ) (s : Slot) → ◌≡◌ {A = Option (Option _)} (write {E = E} {V = V} s (Run f [])) None
  empty_word f (Index i) = refl
  empty_word f (Key k) = refl

  empty_run : (f : ℕ) (rest : List (Item E V)) → IsJoined (Run f [] ∷ rest) rest
  empty_run f rest = record {
    same_words = λ s. ap (λ o. option_or (says s rest) o) (empty_word f s) ∙ option_or_none (says s rest);
    no_more_holes = λ w h. (tt, h);
  }

  runs_join : (f n : ℕ) (es ds : List E) (rest : List (Item E V)) → n ≡ f + length es → IsJoined (Run f es ∷ Run n ds ∷ rest) (Run f (es ++ ds) ∷ rest)
  runs_join f n [] ds rest is = (let same : n ≡ f = omega (arith, is) in subst (λ (k : ℕ). IsJoined (Run f [] ∷ Run n ds ∷ rest) (Run k ds ∷ rest)) same (empty_run f (Run n ds ∷ rest)))
  runs_join f n (e ∷ es) [] rest is =
      subst (λ (l : List E). IsJoined (Run f (e ∷ es) ∷ Run n [] ∷ rest) (Run f l ∷ rest)) (sym (append-nil (e ∷ es))) (joined_behind (Run f (e ∷ es) ∷ []) (Run n [] ∷ rest) rest (empty_run n rest))
  runs_join f n (e ∷ es) (d ∷ ds) rest is =
      subst (λ (k : ℕ). IsJoined (Run f (e ∷ es) ∷ Run k (d ∷ ds) ∷ rest) (Run f (e ∷ es ++ d ∷ ds) ∷ rest)) (sym is) (two_runs f e es d ds rest)

module _ {E : Type 0} (at : Located → E) where
  abbrev bytes : Place → E
  bytes p = at (in_queue false p)

  one_more : (f : ℕ) (p : RunPiece) (ps : List RunPiece) (rest : List Filed)
      → IsJoined (Run f (map bytes p.places) ∷ filed_copies at (in_one (f + length p.places) ps ++ rest)) (Run f (map bytes (all_places (p ∷ ps))) ∷ filed_copies at rest)
  one_more f p [] rest =
      subst (λ l. IsJoined (Run f (map bytes p.places) ∷ filed_copies at rest) (Run f (map bytes l) ∷ filed_copies at rest)) (sym (append-nil p.places)) (joined_same (Run f (map bytes p.places) ∷ filed_copies at rest))
  one_more f p (q ∷ qs) rest =
      let long = length-map p.places bytes in
      subst (λ l. IsJoined (Run f (map bytes p.places) ∷ filed_copies at (in_one (f + length p.places) (q ∷ qs) ++ rest)) (Run f l ∷ filed_copies at rest))
      (sym (map-append bytes p.places (all_places (q ∷ qs))))
      (runs_join f (f + length p.places) (map bytes p.places) (map bytes (all_places (q ∷ qs))) (filed_copies at rest) (omega (arith, long)))

  pieces_join : (f : ℕ) (ps : List RunPiece) (rest : List Filed) → IsJoined (filed_copies at (in_pieces f ps ++ rest)) (filed_copies at (in_one f ps ++ rest))
  pieces_join f [] rest = joined_same (filed_copies at rest)
  pieces_join f (p ∷ ps) rest =
      joined_twice (filed_copies at (in_pieces f (p ∷ ps) ++ rest)) (Run f (map bytes p.places) ∷ filed_copies at (in_one (f + length p.places) ps ++ rest)) (filed_copies at (in_one f (p ∷ ps) ++ rest))
      (joined_behind (Run f (map bytes p.places) ∷ []) (filed_copies at (in_pieces (f + length p.places) ps ++ rest)) (filed_copies at (in_one (f + length p.places) ps ++ rest)) (pieces_join (f + length p.places) ps rest))
      (one_more f p ps rest)

-- The law.

pub whole_moved : {E : Type 0} → WholeGroupsAreMoved E
whole_moved at gate v g ps o w =
    let (moves, can, same) = filed_move at gate v (in_one w.first w.pieces ++ w.rest) o w.copies in (
      all_parts gate g ps v ∙ ap (all_filed gate v) w.items ∙ in_one_moves at gate v o w.first w.pieces w.rest w.copies ∙ moves,
      can,
      subst (λ l. IsJoined (filed_copies at (filed_items g ps)) l) (sym same)
          (subst (λ xs. IsJoined (filed_copies at xs) (filed_copies at (in_one w.first w.pieces ++ w.rest))) (sym w.items) (pieces_join at w.first w.pieces w.rest)),
    )
