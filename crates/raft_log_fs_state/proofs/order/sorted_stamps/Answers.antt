use Rattle.std.proofs.Common.{sym, ◌∙◌, ap, ◌++◌, List, ℕ, Option, Vec, Global}
use Rattle.std.proofs.lemmas.List.{append-nil}
use Rattle.std.proofs.lemmas.List.Sorted.{IsNonDecreasingBy-from_sort}
use Rattle.raft_log_fs_state.specs.declared.change.Stamped.{Stamped}
use Rattle.raft_log_fs_state.specs.declared.files.Stored.{Stored}
use Rattle.raft_log_fs_state.specs.Stamps.{stamps_on}
use Rattle.raft_log_fs_state.proofs.Keeping.{kept_stamps, stamps_more}
use Rattle.raft_log_fs_state.proofs.order.sorted_stamps.Goals as goal
use Rattle.raft_log_fs_state.proofs.order.sorted_stamps.Goals.{in-Some+in_ok-add_stamps, in_default}

pub loop-slot-preserved : goal.loop-slot-preserved
loop-slot-preserved c =
    let front : List ℕ = c.loop-slot.stamps.items in
    stamps_more c.args.files.now c.loop-slot.slot-index c.slot-item.result front c.match-slot.stamps.items c.loop-slot-test.true c.slot-item.is c.loop-slot.invariant (elim c.match-slot.branch [
      | in-Some+in_ok-add_stamps w ↦
          ap (λ (v : Vec ℕ Global). v.items) w.stamps-is
          ∙ (w.in_ok-add_stamps.ensures
          ∙ (ap (λ (us : List Stamped). front ++ stamps_on us) w.deref.ensures.value
          ∙ ap (λ (o : Option Stored). front ++ kept_stamps o) (sym w.in-Some.is)))
      | in_default w ↦
          ap (λ (v : Vec ℕ Global). v.items) w.stamps-is
          ∙ (sym (append-nil front) ∙ ap (λ (o : Option Stored). front ++ kept_stamps o) (sym w.in_default.is))
    ])

pub returns-clause-sorted : goal.returns-clause-sorted
returns-clause-sorted c = IsNonDecreasingBy-from_sort (λ x. x) c.sort_unstable.new.self.items c.sort_unstable.ensures.sorted
