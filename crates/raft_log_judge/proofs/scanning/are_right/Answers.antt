use Rattle.std.proofs.Common.{◌≡◌, ◌∙◌, ℕ, List, Some, ap, subst, sym}
use Rattle.std.specs.Global.{Vec}
use Rattle.std.specs.Prelude.{◌&&◌}
use Rattle.raft_log_model_laws.specs.Meaning.Slot.{Key}
use Rattle.raft_log_model_laws.specs.Meaning.Content.{Value}
use Rattle.raft_log_world.specs.Reads.{Contents, bytes_of, is_below, is_from, pairs_of}
use Rattle.raft_log_judge.specs.Contents.{after_all}
use Rattle.raft_log_judge.specs.Scanned.{AreRight}
use Rattle.raft_log_judge.proofs.Supporting.{first_left, to_not}
use Rattle.raft_log_judge.proofs.scanning.are_right.Goals as goal

-- a value by equal bytes of its key, and equal bytes
has_value : (m : Contents) (g : ℕ) (k l v w : List ℕ) → k ≡ l → v ≡ w → m g (Key l) ≡ Some (Value w) → m g (Key k) ≡ Some (Value v)
has_value m g k l v w key value is = ap (λ (x : List ℕ). m g (Key x)) key ∙ is ∙ ap (λ (x : List ℕ). Some (Value x)) (sym value)

pub returns-then-not-value_is : goal.returns-then-not-value_is
returns-then-not-value_is c =
    let m = after_all c.args.batches.now in
    let pair = c.pair-item.result in
    let right = λ (ps : List (Vec ℕ × Vec ℕ)). AreRight m c.args.group (bytes_of c.args.start.now) (bytes_of c.args.end.now) (pairs_of ps) in
    let split = first_left c.args.pairs.now c.loop-pair.pair-index pair pair c.loop-pair-test.true c.pair-item.is in (
      λ no. absurd (let never : ⊥ = cc in never),
      λ all. absurd (to_not c.value_is.result c.if-not-value_is.true (c.value_is.ensures.1
          (has_value m c.args.group _ _ _ _ c.as_slice-in-loop-pair.ensures.value c.as_slice-in-loop-pair-2.ensures.value (subst right split (c.loop-pair.invariant.1 all)).0.1))),
    )

pub loop-pair-preserved : goal.loop-pair-preserved
loop-pair-preserved c =
    let m = after_all c.args.batches.now in
    let pair = c.pair-item.result in
    let right = λ (ps : List (Vec ℕ × Vec ℕ)). AreRight m c.args.group (bytes_of c.args.start.now) (bytes_of c.args.end.now) (pairs_of ps) in
    let split = first_left c.args.pairs.now c.loop-pair.pair-index pair pair c.loop-pair-test.true c.pair-item.is in
    let inside = λ (k : List ℕ). is_from (bytes_of c.args.start.now) k && is_below (bytes_of c.args.end.now) k in
    let within = ap inside (sym c.as_slice.ensures.value) ∙ sym c.is_within.ensures ∙ c.if-not-is_within.false in
    let value = has_value m c.args.group _ _ _ _ (sym c.as_slice-in-loop-pair.ensures.value) (sym c.as_slice-in-loop-pair-2.ensures.value) (c.value_is.ensures.0 c.if-not-value_is.false) in (
      λ later. c.loop-pair.invariant.0 (subst right (sym split) ((within, value), later)),
      λ all. (subst right split (c.loop-pair.invariant.1 all)).1,
    )
