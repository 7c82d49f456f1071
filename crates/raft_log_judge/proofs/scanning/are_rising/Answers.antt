use Rattle.std.proofs.Common.{◌≡◌, ◌∷◌, [], ℕ, List, length, refl, subst, sym, rules}
use Rattle.std.specs.Cmp.Lexicographic.{slice_cmp}
use Rattle.std.specs.Global.{Vec}
use Rattle.std.specs.List.Sorted.{IsStrictlySortedBy}
use Rattle.std.specs.Map.{keys_of}
use Rattle.std.specs.Ordering.{nat_cmp}
use Rattle.raft_log_world.specs.Reads.{pairs_of}
use Rattle.raft_log_judge.specs.Scanned.{AreBelow}
use Rattle.raft_log_judge.proofs.Supporting.{empty_list, to_not}
use Rattle.raft_log_judge.proofs.scanning.are_rising.Goals as goal

abbrev Rising : List (Vec ℕ × Vec ℕ) → Type 0
Rising ps = IsStrictlySortedBy (slice_cmp nat_cmp) (keys_of (pairs_of ps))

parts : (p : Vec ℕ × Vec ℕ) (ps : List (Vec ℕ × Vec ℕ)) → Rising (p ∷ ps) → AreBelow p.0.items (keys_of (pairs_of ps)) × Rising ps
unfolding IsStrictlySortedBy
parts p ps rising = rising

of_parts : (p : Vec ℕ × Vec ℕ) (ps : List (Vec ℕ × Vec ℕ)) → AreBelow p.0.items (keys_of (pairs_of ps)) → Rising ps → Rising (p ∷ ps)
unfolding IsStrictlySortedBy
of_parts p ps below rising = (below, rising)

none : Rising []
unfolding IsStrictlySortedBy
none = tt

pub returns-then-not-is_below_all : goal.returns-then-not-is_below_all
returns-then-not-is_below_all c =
    let p = c.in-Some.pair.now in
    let ps = c.in-Some.later.now in
    let split : c.loop-pair.rest.now ≡ p ∷ ps = search rules in (
      λ no. absurd (let never : ⊥ = cc in never),
      λ all. absurd (to_not c.is_below_all.result c.if-not-is_below_all.true (c.is_below_all.ensures.1
          (subst (λ (k : List ℕ). AreBelow k (keys_of (pairs_of ps))) (sym c.as_slice.ensures.value) (parts p ps (subst Rising split (c.loop-pair.invariant.1 all))).0))),
    )

pub loop-pair-preserved : goal.loop-pair-preserved
loop-pair-preserved c =
    let p = c.in-Some.pair.now in
    let ps = c.in-Some.later.now in
    let split : c.loop-pair.rest.now ≡ p ∷ ps = search rules in
    let below = subst (λ (k : List ℕ). AreBelow k (keys_of (pairs_of ps))) c.as_slice.ensures.value (c.is_below_all.ensures.0 c.if-not-is_below_all.false) in (
      λ later. c.loop-pair.invariant.0 (subst Rising (sym split) (of_parts p ps below later)),
      λ all. (parts p ps (subst Rising split (c.loop-pair.invariant.1 all))).1,
    )

pub returns : goal.returns
returns c =
    let zero : length c.loop-pair.rest.now ≡ 0 = search rules in
    let done = empty_list c.loop-pair.rest.now zero in
    (λ yes. c.loop-pair.invariant.0 (subst Rising (sym done) none), λ all. refl)
