-- Copies that the gate lets move are the machine's moves.
use Rattle.std.proofs.Common.{◌≡◌, ℕ, zero, suc, ◌+◌, ◌-◌, ◌≤◌, max, true, false, if◌then◌else◌, nat_le, nat_lt, List, [], ◌∷◌, ◌++◌, length, take, drop, Option, Some, None, refl, sym, ap, ap₂, subst, ◌∙◌, arith, length-drop}
use Rattle.std.proofs.lemmas.List.{take_all}
use Rattle.raft_log_model_laws.specs.Item.{Item}
use Rattle.raft_log_model_laws.specs.Item.Item.{Run, Clean, Compact, Put, Del}
use Rattle.raft_log_model_laws.specs.Meaning.{Slot, Content}
use Rattle.raft_log_model_laws.proofs.Public.{at_bool, if_false, if_true, lt_false}
use Rattle.raft_log_machine_laws.specs.Whereabouts.{CarriesAll}
use Rattle.raft_log_extents.specs.declared.place.Place.{Place}
use Rattle.raft_log_extents.specs.Counts.{passing}
use Rattle.raft_log_memtable_index.specs.Shown.{KeyValue, Shown, whereabouts, with_held, IsOrderly}
use Rattle.raft_log_memtable_index.specs.Bridge.{Located, moved_run, moved_key, all_moved, rewritten_value, item_of, item_of_key, items_of, CanMove, CanAllMove, IsMeant}
use Rattle.raft_log_memtable_index.specs.Bridge.Move.{MoveRun, MoveKey}
use Rattle.raft_log_memtable_index.proofs.Public.{move_orderly, moves_carry, moves_meant, moves_orderly}
use Rattle.raft_log_memtable.specs.Moves.{gated, movable, rewritten_at, rewritten_by, may_move, rewritten_to, key_rewritten}
use Rattle.raft_log_memtables.specs.Rewriting.{all_rewritten, copied_items, moves_of, IsCopy, AreCopies}

-- of places that pass the gate, so many first ones do
passing_first : (gate n : ℕ) (ps : List Place) → n ≤ passing gate ps → passing gate (take n ps) ≡ n
passing_first gate zero ps h = refl
passing_first gate (suc n) [] h = absurd (omega arith)
passing_first gate (suc n) (p ∷ ps) h =
    at_bool (nat_le p.file gate)
    (λ b. suc n ≤ (if b then suc (passing gate ps) else 0) → (if b then suc (passing gate (take n ps)) else 0) ≡ suc n)
    (λ _ k. ap suc (passing_first gate n ps (omega arith))) (λ _ k. absurd (omega arith)) h

pub gated_first : (gate : Option ℕ) (n : ℕ) (ps : List Place) → n ≤ gated gate ps → gated gate (take n ps) ≡ n
gated_first None n ps h = omega arith
gated_first (Some gate) n ps h = passing_first gate n ps h

passing_within : (gate : ℕ) (ps : List Place) → passing gate ps ≤ length ps
passing_within gate [] = omega arith
passing_within gate (p ∷ ps) =
    at_bool (nat_le p.file gate) (λ b. (if b then suc (passing gate ps) else 0) ≤ suc (length ps))
    (λ _. let rest = passing_within gate ps in omega arith) (λ _. omega arith)

gated_within : (gate : Option ℕ) (ps : List Place) → gated gate ps ≤ length ps
gated_within None ps = omega arith
gated_within (Some gate) ps = passing_within gate ps

-- a run of copies moves whole
pub run_moves : (gate : Option ℕ) (v : Shown) (f : ℕ) (ps : List Place) → v.first ≤ f → f ≤ v.first + v.rewritten → v.first + v.rewritten ≤ f + length ps
    → f + length ps ≤ v.first + v.rewritten + gated gate (drop v.rewritten v.places) → rewritten_by gate v (Run f ps) ≡ moved_run v f ps
run_moves gate v f ps from split reach high =
    let d : ℕ = f - v.first in
    let none : v.first - f ≡ 0 = omega arith in
    let more = gated_first gate (length ps - (v.rewritten - d)) (drop v.rewritten v.places) (omega (arith, from, split, reach, high)) in
    let all : movable v gate d (length ps) ≡ length ps = omega (arith, more, from, split, reach) in
    if_false (nat_lt v.rewritten d) v (rewritten_at v d (take (movable v gate d (length (drop (v.first - f) ps))) (drop (v.first - f) ps))) (lt_false v.rewritten d (omega (arith, from, split)))
    ∙ ap (λ n. rewritten_at v d (take (movable v gate d (length (drop n ps))) (drop n ps))) none
    ∙ ap (rewritten_at v d) (ap (λ n. take n ps) all ∙ take_all (length ps) ps (omega arith))
    ∙ ap (λ n. record v { places = take d v.places ++ (ps ++ drop (d + length ps) v.places); rewritten = n }) (let same : max v.rewritten (d + length ps) ≡ d + length ps = omega (arith, from, reach) in same)

value_moves : (gate : Option ℕ) (n : ℕ) (o : Option KeyValue) (h : KeyValue) → o ≡ Some h → may_move gate h ≡ true → rewritten_to gate n o ≡ rewritten_value n o
value_moves gate n o h is may =
    ap (rewritten_to gate n) is
    ∙ if_true (may_move gate h) (Some (record { bytes = h.bytes; appended = false; file = n })) (Some h) may
    ∙ sym (ap (rewritten_value n) is)

module _ {E : Type 0} (at : Located → E) (gate : Option ℕ) (n : ℕ) where
  copy_can : (v : Shown) (f : ℕ) (ps : List Place) → IsOrderly v → IsCopy at gate v (Run f ps) → CanMove at v (MoveRun f ps)
  copy_can v f ps o h = (
    h.0,
    h.1,
    h.2,
    (let high = h.3 in let parts = o.parts in let some = gated_within gate (drop v.rewritten v.places) in let count = length-drop v.rewritten v.places in omega (arith, high, parts, some, count)),
    h.4,
    h.5,
  )

  -- the copies move as the machine's do, and may
  pub copies_move : (v : Shown) (xs : List (Item Place (List ℕ))) → IsOrderly v → AreCopies at gate n v xs
      → (all_rewritten gate n v xs ≡ all_moved v (moves_of n xs)) × CanAllMove at v (moves_of n xs) × (items_of at v (moves_of n xs) ≡ copied_items at xs)
  copies_move v [] o h = (refl, tt, refl)
  copies_move v (Run f ps ∷ xs) o h =
      let same = run_moves gate v f ps h.0.0 h.0.1 h.0.2 h.0.3 in
      let can = copy_can v f ps o h.0 in
      let rest = copies_move (moved_run v f ps) xs (move_orderly at v (MoveRun f ps) o can) (subst (λ u. AreCopies at gate n u xs) same h.1) in
      (ap (λ u. all_rewritten gate n u xs) same ∙ rest.0, (can, rest.1), ap (λ l. item_of at v (MoveRun f ps) ∷ l) rest.2)
  copies_move v (Put k w ∷ xs) o h =
      let same : key_rewritten gate v k n ≡ moved_key v k n = ap (λ value. record v { held = with_held v.held k value }) (value_moves gate n (v.held k) h.0.0 h.0.1 h.0.3) in
      let can : CanMove at v (MoveKey k n) = (h.0.0, h.0.1, h.0.4) in
      let rest = copies_move (moved_key v k n) xs (move_orderly at v (MoveKey k n) o can) (subst (λ u. AreCopies at gate n u xs) same h.1) in (
        ap (λ u. all_rewritten gate n u xs) same ∙ rest.0,
        (can, rest.1),
        ap₂ (λ (x : Item E (List ℕ)) l. x ∷ l) (ap (item_of_key k) h.0.1 ∙ ap (Put k) (sym h.0.2)) rest.2,
      )
  copies_move v (Clean ∷ xs) o h = absurd h.0
  copies_move v (Compact c ∷ xs) o h = absurd h.0
  copies_move v (Del k ∷ xs) o h = absurd h.0

  pub copies_carry : (v : Shown) (xs : List (Item Place (List ℕ))) (m : Slot → Option (Content E (List ℕ))) → IsOrderly v → AreCopies at gate n v xs → IsMeant at v m
      → CarriesAll m (whereabouts v) (copied_items at xs) (whereabouts (all_rewritten gate n v xs))
  copies_carry v xs m o h meant =
      let move = copies_move v xs o h in
      subst (λ l. CarriesAll m (whereabouts v) l (whereabouts (all_rewritten gate n v xs))) move.2
      (subst (λ u. CarriesAll m (whereabouts v) (items_of at v (moves_of n xs)) (whereabouts u)) (sym move.0) (moves_carry at v (moves_of n xs) m o move.1 meant))

  pub copies_mean : (v : Shown) (xs : List (Item Place (List ℕ))) (m : Slot → Option (Content E (List ℕ))) → IsOrderly v → AreCopies at gate n v xs → IsMeant at v m
      → IsMeant at (all_rewritten gate n v xs) m
  copies_mean v xs m o h meant =
      let move = copies_move v xs o h in
      subst (λ u. IsMeant at u m) (sym move.0) (moves_meant at v (moves_of n xs) m o move.1 meant)

  pub copies_orderly : (v : Shown) (xs : List (Item Place (List ℕ))) → IsOrderly v → AreCopies at gate n v xs → IsOrderly (all_rewritten gate n v xs)
  copies_orderly v xs o h =
      let move = copies_move v xs o h in
      subst IsOrderly (sym move.0) (moves_orderly at v (moves_of n xs) o move.1)
