-- Where the tables take a batch whose entries lie in the log, all entries of which places show do.
use Rattle.std.proofs.lemmas.Bool.{cases_lt}
use Rattle.std.proofs.Common.{◌≡◌, ℕ, zero, suc, ◌-◌, ◌≤◌, true, List, [], ◌∷◌, ◌++◌, length, take, drop, inl, inr, sym, subst, arith}
use Rattle.std.specs.Prelude.{min}
use Rattle.std.proofs.lemmas.List.{length-take}
use Rattle.raft_log_model_laws.specs.Item.{Item}
use Rattle.raft_log_model_laws.specs.Item.Item.{Run, Clean, Compact, Put, Del}
use Rattle.raft_log_model_laws.specs.Groups.{of_group}
use Rattle.raft_log_extents.specs.declared.place.Place.{Place}
use Rattle.raft_log_memtable_index.specs.Shown.{Shown, IsOrderly, MayAllFollow, all_stepped, span, stepped}
use Rattle.raft_log_memtable_index.specs.Bridge.{Located, in_queue, located}
use Rattle.raft_log_memtable_index.proofs.Public.{orderly_stepped, span_stepped}
use Rattle.raft_log_dual_pipes.specs.State.{LogOnDisk}
use Rattle.raft_log_block_cache.specs.Stored.{Each, IsStored}
use Rattle.raft_log_block_cache.specs.Written.{RunIsStored, TakenEntriesAreStored}

module _ (P : Located → Type 0) where
  -- places in Append
  appended_all : (ps : List Place) → Each (λ p. P (in_queue true p)) ps → Each P (located 0 ps)
  appended_all [] all = tt
  appended_all (p ∷ ps) (first, rest) = (first, appended_all ps rest)

  none_located : (r : ℕ) → Each P (located r [])
  none_located zero = tt
  none_located (suc r) = tt

  -- some from the front
  taken_located : (r k : ℕ) (ps : List Place) → r ≤ k → Each P (located r ps) → Each P (located r (take k ps))
  taken_located zero zero ps less all = tt
  taken_located zero (suc k) [] less all = tt
  taken_located zero (suc k) (p ∷ ps) less (first, rest) = (first, taken_located zero k ps (omega arith) rest)
  taken_located (suc r) zero ps less all = absurd (omega (arith, less))
  taken_located (suc r) (suc k) [] less all = tt
  taken_located (suc r) (suc k) (p ∷ ps) less (first, rest) = (first, taken_located r k ps (omega (arith, less)) rest)

  -- some from the front that are all in Rewrite
  front_located : (r k : ℕ) (ps : List Place) → k ≤ r → Each P (located r ps) → Each P (located k (take k ps))
  front_located r zero ps less all = tt
  front_located zero (suc k) ps less all = absurd (omega (arith, less))
  front_located (suc r) (suc k) [] less all = tt
  front_located (suc r) (suc k) (p ∷ ps) less (first, rest) = (first, front_located r k ps (omega (arith, less)) rest)

  -- without some from the front
  dropped_located : (r k : ℕ) (ps : List Place) → Each P (located r ps) → Each P (located (r - k) (drop k ps))
  dropped_located r zero ps all = (let same : r - 0 ≡ r = omega arith in subst (λ (n : ℕ). Each P (located n ps)) (sym same) all)
  dropped_located r (suc k) [] all = none_located (r - suc k)
  dropped_located zero (suc k) (p ∷ ps) (first, rest) = (let same : 0 - suc k ≡ 0 - k = omega arith in subst (λ (n : ℕ). Each P (located n (drop k ps))) (sym same) (dropped_located zero k ps rest))
  dropped_located (suc r) (suc k) (p ∷ ps) (first, rest) = (let same : suc r - suc k ≡ r - k = omega arith in subst (λ (n : ℕ). Each P (located n (drop k ps))) (sym same) (dropped_located r k ps rest))

  -- with places in Append behind them
  more_located : (r : ℕ) (ps qs : List Place) → r ≤ length ps → Each P (located r ps) → Each (λ p. P (in_queue true p)) qs → Each P (located r (ps ++ qs))
  more_located zero [] qs less all more = appended_all qs more
  more_located zero (p ∷ ps) qs less (first, rest) more = (first, more_located zero ps qs (omega arith) rest more)
  more_located (suc r) [] qs less all more = absurd (omega (arith, less))
  more_located (suc r) (p ∷ ps) qs less (first, rest) more = (first, more_located r ps qs (omega (arith, less)) rest more)

  -- a run from the k-th place on
  run_located : (r k : ℕ) (ps qs : List Place) → r ≤ length ps → Each P (located r ps) → Each (λ p. P (in_queue true p)) qs → Each P (located (min r k) (take k ps ++ qs))
  run_located r k ps qs parts all more = elim (cases_lt k r) [
    | inl less ↦
        (let long = length-take k ps in
        let is : min r k ≡ k = omega (arith, less) in
        subst (λ (n : ℕ). Each P (located n (take k ps ++ qs))) (sym is) (more_located k (take k ps) qs (omega (arith, long, less, parts)) (front_located r k ps (omega (arith, less)) all) more))
    | inr rest ↦
        (let long = length-take k ps in
        let is : min r k ≡ r = omega (arith, rest) in
        subst (λ (n : ℕ). Each P (located n (take k ps ++ qs))) (sym is) (more_located r (take k ps) qs (omega (arith, long, rest, parts)) (taken_located r k ps (omega (arith, rest)) all) more))
  ]

module _ {R : Type 0} (s : LogOnDisk R) (n : ℕ) where
  step_stored : (v : Shown) (x : Item Place (List ℕ)) → IsOrderly v → RunIsStored s x → Each (IsStored s) (located v.rewritten v.places)
      → Each (IsStored s) (located (stepped n v x).rewritten (stepped n v x).places)
  step_stored v (Run f []) orderly lies all = all
  step_stored v (Run f (p ∷ ps)) orderly lies all = run_located (IsStored s) v.rewritten (f - v.first) v.places (p ∷ ps) orderly.parts all lies
  step_stored v Clean orderly lies all = tt
  step_stored v (Compact c) orderly lies all = dropped_located (IsStored s) v.rewritten (c - v.first) v.places all
  step_stored v (Put k w) orderly lies all = all
  step_stored v (Del k) orderly lies all = all

  all_stored : (v : Shown) (xs : List (Item Place (List ℕ))) → IsOrderly v → MayAllFollow (span v) xs → Each (RunIsStored s) xs → Each (IsStored s) (located v.rewritten v.places)
      → Each (IsStored s) (located (all_stepped n v xs).rewritten (all_stepped n v xs).places)
  all_stored v [] orderly follows lie all = all
  all_stored v (x ∷ xs) orderly (may, rest) (lies, others) all =
      all_stored (stepped n v x) xs (orderly_stepped n v x orderly may) (subst (λ w. MayAllFollow w xs) (sym (span_stepped n v x may.0)) rest) others
      (step_stored v x orderly lies all)

pub taken_entries_are_stored : {R : Type 0} → TakenEntriesAreStored R
taken_entries_are_stored s n v xs orderly follows stored lie g = all_stored s n (v g) (of_group g xs) (orderly g) (follows g) (lie g) (stored g)
