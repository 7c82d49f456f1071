use Rattle.std.proofs.Common.{◌≡◌, ◌++◌, ◌∷◌, [], ℕ, ap, sym, subst, refl, ◌∙◌, append_assoc, map, arith, rules, None}
use Rattle.std.proofs.lemmas.Grind.{common_steps}
use Rattle.std.proofs.lemmas.List.{map-append}
use Rattle.std.specs.BTreeMap.{get}
use Rattle.std.specs.Ordering.{nat_cmp}
use Rattle.std.specs.Vec.Iter.{into_iter_items}
use Rattle.raft_log_model_laws.specs.Fragments.{carried_on, completed}
use Rattle.raft_log_model_laws.proofs.Public.{open_after, open_in}
use Rattle.raft_log_replay_context.specs.OpenGroups.{begun_of}
use Rattle.raft_log_replay_context.specs.Pieces.{groups_seen, head_in, unfinished_of, AllGroups, Reading}
use Rattle.raft_log_replay_context.proofs.Fragments.{distinct, AreDistinct}
use Rattle.raft_log_replay_context.proofs.OpenGroups.{none_at, others_stay}
use Rattle.raft_log_replay_context.proofs.CarryOn.{absent_here, absent_last, all_came, all_turned, done_more, ends_now, goes_on_absent, left_more, left_says, none_left, passed_ends, passed_seen, IsHandedOut}
use Rattle.raft_log_replay_context.proofs.pieces.GroupPieces.carry_on.Goals as goal

pub loop-group-init : goal.loop-group-init
loop-group-init c =
    let opened : c.replace-open.result ≡ c.args.self.now.left_open = search rules in
    let empty : c.replace-open.new.dest ≡ [] = search rules in
    let heads = λ (φ : Reading) (n : ℕ). head_in φ (get nat_cmp c.args.heads.now n) in
    record {
      all = ap (map begun_of) c.into_iter-group-iterator.ensures.into_iter_gives.0 ∙ c.in_ok-group-items.ensures ∙ opened;
      heads = refl;
      same = λ φ n none. refl;
      left = λ φ d. ap (map (unfinished_of φ)) empty;
      done = λ φ d. ap (groups_seen φ) c.new-done.ensures.items;
      out = subst (AllGroups (IsHandedOut c.args.self.now.left_open heads)) (sym c.new-done.ensures.items) tt;
    }

pub loop-group-preserved : goal.loop-group-preserved
loop-group-preserved c =
    let so_far = c.loop-group.invariant in
    let group = c.in-Some.group in
    let u = begun_of group in
    let ys = map begun_of c.loop-group.yielded in
    let rest = map begun_of (into_iter_items c.next.new.self) in
    let all = c.args.self.now.left_open in
    let heads = λ (φ : Reading) (n : ℕ). head_in φ (get nat_cmp c.args.heads.now n) in
    let whole : ys ++ u ∷ rest ≡ all = ap (λ l. ys ++ map begun_of l) (sym c.in-Some.ensures.steps.0) ∙ so_far.all in
    let more : map begun_of (c.loop-group.yielded ++ group ∷ []) ≡ ys ++ u ∷ [] = map-append begun_of c.loop-group.yielded (group ∷ []) in
    let h = λ (φ : Reading). head_in φ c.remove-head.result in
    let found : c.remove-head.result ≡ get nat_cmp c.loop-group.heads u.0 = c.remove-head.ensures.value in
    let same : (φ : Reading) → open_in (map (unfinished_of φ) ys) u.0 ≡ None → h φ ≡ heads φ u.0 = λ φ none. ap (head_in φ) found ∙ so_far.same φ u.0 none in
    record {
      all = ap (λ l. l ++ rest) more ∙ append_assoc ys (u ∷ []) rest ∙ whole;
      heads = c.in_ok-pass.ensures.heads ∙ so_far.heads;
      same = λ φ n none.
          let parts = absent_last φ ys u n (ap (λ l. open_in (map (unfinished_of φ) l) n) (sym more) ∙ none) in
          let apart = parts.1 in
          let keeps : get nat_cmp c.remove-head.new.self n ≡ get nat_cmp c.loop-group.heads n = grind (arith, common_steps, apart) in
          ap (head_in φ) keeps ∙ so_far.same φ n parts.0;
      left = λ φ d.
          left_more φ ys rest all u whole (heads φ) (h φ) (same φ) _ _ (so_far.left φ)
          (c.in_ok-pass.ensures.left φ (others_stay u.0 c.loop-group.self.left_open (none_at φ u.0 c.loop-group.self.left_open
          (ap (λ l. open_in l u.0) (so_far.left φ d) ∙ goes_on_absent φ (map (unfinished_of φ) ys) (heads φ) u.0 (absent_here φ ys rest all u whole d)))))
          d ∙ ap (λ l. carried_on (map (unfinished_of φ) l) (heads φ)) (sym more);
      done = λ φ d.
          done_more φ ys rest all u whole (heads φ) (h φ) (same φ) _ _ (so_far.done φ) (passed_seen φ group c.remove-head.result _ _ c.in_ok-pass.ensures.done) d
          ∙ ap (λ l. completed (map (unfinished_of φ) l) (heads φ)) (sym more);
      out = passed_ends (IsHandedOut all heads) group c.remove-head.result _ _ c.in_ok-pass.ensures.done so_far.out
          (λ more is ps parts. ends_now ys rest all u whole heads c.remove-head.result same more is ps.items parts);
    }

pub returns-clause-ok : goal.returns-clause-ok
returns-clause-ok c = λ φ rs e.
    let so_far = c.loop-group.invariant in
    let ys = map begun_of c.loop-group.yielded in
    let all = c.args.self.now.left_open in
    let none = none_left (into_iter_items c.loop-group.group-iterator) (sym c.loop-group.group-iterator.rest.ok.0 ∙ c.in-None.ensures.steps.0) in
    let came = all_came ys _ all so_far.all (ap (map begun_of) none) in
    let d : AreDistinct (map (unfinished_of φ) all) = subst AreDistinct (sym e) (distinct rs) in
    let heads = λ (n : ℕ). head_in φ (get nat_cmp c.args.heads.now n) in
    record {
      items = so_far.done φ d ∙ ap (λ l. completed (map (unfinished_of φ) l) heads) came;
      left = so_far.left φ d ∙ ap (λ l. carried_on (map (unfinished_of φ) l) heads) came;
      heads = left_says rs (map (unfinished_of φ) ys) heads (λ n. head_in φ (get nat_cmp c.loop-group.heads n)) (ap (map (unfinished_of φ)) came ∙ e) (so_far.same φ);
    }

pub returns-clause-done : goal.returns-clause-done
returns-clause-done c =
    let all = c.args.self.now.left_open in
    all_turned (IsHandedOut all (λ φ n. head_in φ (get nat_cmp c.args.heads.now n))) _ _
    (λ ps out. (
      out.0,
      λ φ rs e.
          let to = out.1 φ (subst AreDistinct (sym e) (distinct rs)) in
          record {
            so_far = to.so_far;
            behind = to.behind;
            begun = sym (open_after [] rs out.0) ∙ ap (λ l. open_in l out.0) (sym e) ∙ to.begun;
            ends = to.ends;
            parts = to.parts;
          },
    ))
    c.loop-group.invariant.out
