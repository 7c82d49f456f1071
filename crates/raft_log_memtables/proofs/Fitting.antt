-- Runs of copies, and marks, end at no index that is too great.
use Rattle.std.proofs.Common.{◌≡◌, ◌≤◌, ◌+◌, ℕ, Bool, true, false, List, [], ◌∷◌, ◌++◌, length, map, Option, Some, None, if◌then◌else◌, ◌==◌, nat_lt, sym, subst, arith}
use Rattle.std.proofs.lemmas.List.{length-map}
use Rattle.raft_log_model_laws.specs.Item.{Item, Tagged}
use Rattle.raft_log_model_laws.specs.Item.Item.{Clean, Compact}
use Rattle.raft_log_model_laws.specs.Groups.{of_group}
use Rattle.raft_log_machine_laws.specs.Machine.{AllFit, Fits}
use Rattle.raft_log_machine_laws.specs.Whereabouts.{top}
use Rattle.raft_log_memtable_index.specs.Shown.{KeyValue, Shown, IsOrderly}
use Rattle.raft_log_memtable_index.specs.Bridge.{CanAllMove, CanMove, Located, Move, compact_owed, dels, in_queue, item_of, item_of_key, items_of, marks, moved}
use Rattle.raft_log_memtable_index.specs.Bridge.Move.{MoveKey, MoveRun}
use Rattle.raft_log_memtable_index.proofs.Public.{moves_orderly}

-- each of a group's items does
abbrev pub EachFits : {E V : Type 0} → List (Item E V) → Type 0
EachFits [] = Unit {0}
EachFits (x ∷ xs) = Fits x × EachFits xs

fit_both : {E V : Type 0} (xs ys : List (Item E V)) → EachFits xs → EachFits ys → EachFits (xs ++ ys)
fit_both [] ys front back = back
fit_both (x ∷ xs) ys front back = (front.0, fit_both xs ys front.1 back)

-- where each group's items do, all do
module _ {E V : Type 0} (x : Tagged E V) (xs : List (Tagged E V)) where
  itself : (x.group == x.group) ≡ true
  itself = grind (arith)

  first_fits : EachFits (of_group x.group (x ∷ xs)) → Fits x.item
  first_fits each =
      let at : EachFits (x.item ∷ of_group x.group xs) = subst (λ (b : Bool). EachFits (if b then x.item ∷ of_group x.group xs else of_group x.group xs)) itself each in
      at.0

others_fit : {E V : Type 0} (y : Item E V) (ys : List (Item E V)) (b : Bool) → EachFits (if b then y ∷ ys else ys) → EachFits ys
others_fit y ys true each = each.1
others_fit y ys false each = each

pub groups_fit : {E V : Type 0} (xs : List (Tagged E V)) → ((g : ℕ) → EachFits (of_group g xs)) → AllFit xs
groups_fit [] each = tt
groups_fit (x ∷ xs) each =
    (first_fits x xs (each x.group), groups_fit xs (λ g. others_fit x.item (of_group g xs) (x.group == g) (each g)))

-- copies
module _ {E : Type 0} (at : Located → E) where
  key_fits : (k : List ℕ) (h : Option KeyValue) → Fits (item_of_key {E = E} k h)
  key_fits k None = omega (arith)
  key_fits k (Some h) = tt

  move_fits : (v : Shown) (x : Move) → IsOrderly v → CanMove at v x → Fits (item_of at v x)
  move_fits v (MoveRun f ps) orderly can =
      let long : length (map (λ p. at (in_queue false p)) ps) ≡ length ps = length-map ps (λ p. at (in_queue false p)) in
      let within : f + length ps ≤ v.first + length v.places = can.3 in
      let small : v.first + length v.places ≤ top = orderly.end in
      subst (λ (n : ℕ). f + n ≤ top) (sym long) (omega (arith, within, small))
  move_fits v (MoveKey k n) orderly can = key_fits k (v.held k)

  pub moves_fit : (v : Shown) (xs : List Move) → IsOrderly v → CanAllMove at v xs → EachFits (items_of at v xs)
  moves_fit v [] orderly can = tt
  moves_fit v (x ∷ xs) orderly can =
      (move_fits v x orderly can.0, moves_fit (moved v x) xs (moves_orderly at v (x ∷ []) orderly (can.0, tt)) can.1)

-- marks
clean_fits : (E : Type 0) (b : Bool) → EachFits {E = E} {V = List ℕ} (if b then Clean ∷ [] else [])
clean_fits E true = (tt, tt)
clean_fits E false = tt

compact_fits : (E : Type 0) (b : Bool) (i : ℕ) → EachFits {E = E} {V = List ℕ} (if b then Compact i ∷ [] else [])
compact_fits E true i = (tt, tt)
compact_fits E false i = tt

dels_fit : (E : Type 0) (ks : List (List ℕ)) → EachFits (dels {E = E} ks)
dels_fit E [] = tt
dels_fit E (k ∷ ks) = (tt, dels_fit E ks)

pub marks_fit : (E : Type 0) (v : Shown) (ks : List (List ℕ)) → EachFits (marks {E = E} v ks)
marks_fit E v ks =
    fit_both (if v.cleaned then Clean ∷ [] else []) (compact_owed v ++ dels ks) (clean_fits E v.cleaned)
    (fit_both (compact_owed v) (dels ks) (compact_fits E v.compacted (if nat_lt 0 v.rewritten then v.first else top)) (dels_fit E ks))
