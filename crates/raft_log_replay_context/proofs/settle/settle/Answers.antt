use Rattle.std.proofs.Common.{◌++◌, ◌∷◌, [], None, Some, ap, ap₂, sym, refl, ◌∙◌, ◌||◌, append_assoc}
use Rattle.std.specs.Vec.Iter.{into_iter_items}
use Rattle.raft_log_memtables.specs.Batch.{mentions}
use Rattle.raft_log_replay_context.specs.Noting.{is_listed}
use Rattle.raft_log_replay_context.specs.Pieces.{with_file}
use Rattle.raft_log_replay_context.proofs.CarryOn.{all_came_of, none_left}
use Rattle.raft_log_replay_context.proofs.Settling.{files_push, mention_push, parts_read_push, settles}
use Rattle.raft_log_replay_context.proofs.settle.settle.Goals as goal

pub loop-part-init : goal.loop-part-init
loop-part-init c = record {
  all = c.into_iter-part-iterator.ensures.into_iter_gives.0;
  taken = refl;
  files = refl;
  rest = λ h. h;
  groups = λ g. ap (is_listed g) c.new-groups.ensures.items;
}

pub loop-part-preserved : goal.loop-part-preserved
loop-part-preserved c =
    let so_far = c.loop-part.invariant in
    let p = c.in-Some.part in
    let ps = c.loop-part.yielded in
    record {
      all = append_assoc ps (p ∷ []) (into_iter_items c.next.new.self) ∙ ap (λ l. ps ++ l) (sym c.in-Some.ensures.steps.0) ∙ so_far.all;
      taken = parts_read_push ps p c.args.tables.now c.loop-part.tables c.replay_rewrite_writes.new.self so_far.taken c.in_ok-replay_rewrite_writes.ensures.ok;
      files = ap Some (c.with_file.ensures ∙ ap (λ f. with_file f p.file) so_far.files) ∙ sym (files_push None ps p);
      rest = λ h. c.replay_rewrite_writes.ensures.rest (so_far.rest h);
      groups = λ g. c.in_ok-add_groups.ensures g ∙ ap₂ (λ a b. a || b) (so_far.groups g) (ap (mentions g) c.as_slice.ensures.value) ∙ sym (mention_push g ps p);
    }

pub returns-clause-ok : goal.returns-clause-ok
returns-clause-ok c =
    let done = c.loop-part.invariant in
    let none = none_left (into_iter_items c.loop-part.part-iterator) (sym c.loop-part.part-iterator.rest.ok.0 ∙ c.in-None.ensures.steps.0) in
    let came = all_came_of c.loop-part.yielded _ c.args.parts.items done.all none in
    settles c.loop-part.yielded c.args.parts.items c.args.tables.now c.loop-part.tables c.note_groups.new.tables c.loop-part.files _ _
    came done.taken done.files done.groups c.as_slice-2.ensures.value c.note_groups.ensures.notes c.note_groups.ensures.counts
