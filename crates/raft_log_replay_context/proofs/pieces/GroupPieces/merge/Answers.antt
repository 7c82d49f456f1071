use Rattle.std.proofs.Common.{◌++◌, [], ap, ap₂, sym, subst, ◌∙◌, map}
use Rattle.std.proofs.lemmas.List.{map-append}
use Rattle.std.specs.BTreeMap.{get}
use Rattle.std.specs.Ordering.{nat_cmp}
use Rattle.raft_log_model_laws.specs.Fragments.{carried_on, completed, head, then_head, unfinished}
use Rattle.raft_log_model_laws.proofs.Public.{head_append, unfinished_append}
use Rattle.raft_log_replay_context.specs.Pieces.{head_at, head_in, seen_by, unfinished_of, IsCompleted, Reading}
use Rattle.raft_log_replay_context.proofs.CarryOn.{all_turned, same_heads}
use Rattle.raft_log_replay_context.proofs.Fragments.{distinct, AreDistinct}
use Rattle.raft_log_replay_context.proofs.OpenGroups.{pushed_apart, seen_append}
use Rattle.raft_log_replay_context.proofs.pieces.GroupPieces.merge.Goals as goal

pub returns : goal.returns
returns c = λ xs ys p q.
    let heads = λ (φ : Reading). same_heads (head_at φ c.args.later) (λ n. head n [] (seen_by φ ys)) (q.heads φ) in
    let carry = λ (φ : Reading). c.in_ok-done.ensures.ok φ (seen_by φ xs) (p.left_open φ) in (
      record {
        heads = λ φ n.
            let left = head_in φ (get nat_cmp c.carry_on.new.heads n) in
            c.in_ok-add_heads.ensures.heads φ n
            ∙ ap (λ m. then_head (head_in φ (get nat_cmp m n)) left) (c.in_ok-leave_open.ensures.heads ∙ c.in_ok-done.ensures.heads)
            ∙ ap (λ h. then_head h left) (p.heads φ n)
            ∙ (carry φ).heads n
            ∙ ap (then_head (head n [] (seen_by φ xs))) (q.heads φ n)
            ∙ sym (head_append n [] (seen_by φ xs) (seen_by φ ys))
            ∙ ap (head n []) (sym (seen_append φ xs ys));
        left_open = λ φ.
            let kept = c.carry_on.new.self.left_open in
            let both = map-append (unfinished_of φ) kept c.args.later.left_open
            ∙ ap₂ (λ a b. a ++ b) ((carry φ).left ∙ ap₂ carried_on (p.left_open φ) (heads φ)) (q.left_open φ)
            ∙ sym (unfinished_append (seen_by φ xs) (seen_by φ ys)) in
            ap (map (unfinished_of φ)) (c.in_ok-add_heads.ensures.others ∙ c.in_ok-leave_open.ensures.open
            ∙ pushed_apart φ kept c.args.later.left_open (subst AreDistinct (sym both) (distinct (seen_by φ xs ++ seen_by φ ys))))
            ∙ both
            ∙ ap unfinished (sym (seen_append φ xs ys));
      },
      record {
        items = λ φ. (carry φ).items ∙ ap₂ completed (p.left_open φ) (heads φ);
        groups = all_turned _ (IsCompleted xs ys) _ (λ ps out. (
          out.0,
          λ φ.
              let to = out.1 φ (seen_by φ xs) (p.left_open φ) in
              record { so_far = to.so_far; behind = to.behind; begun = to.begun; ends = ap (λ h. h out.0) (sym (heads φ)) ∙ to.ends; parts = to.parts },
        ))
            c.in_ok-done.ensures.done;
      },
    )
