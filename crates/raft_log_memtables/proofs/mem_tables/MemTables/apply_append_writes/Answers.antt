use Rattle.std.proofs.Common.{◌∙◌, List, ap, refl, subst, sym}
use Rattle.std.specs.Vec.Iter.{into_iter_items}
use Rattle.raft_log_record_items.specs.declared.item.LogItem.{LogItem}
use Rattle.raft_log_model_laws.specs.Groups.{of_group}
use Rattle.raft_log_record_frames.specs.Meaning.{tagged_items}
use Rattle.raft_log_extents.specs.Entries.{place_of}
use Rattle.raft_log_memtables.specs.Tables.{counts, promise_of, shown_of}
use Rattle.raft_log_memtables.specs.Batch.{all_kept, all_shown, counts_at_end, IsReadyFor}
use Rattle.raft_log_memtables.proofs.Applied.{counts_on, first_has, first_takes, ready_for, ready_on, shown_on}
use Rattle.raft_log_memtables.proofs.Promised.{promises_on, tables_on}
use Rattle.raft_log_memtables.proofs.mem_tables.MemTables.apply_append_writes.Goals as goal

pub loop-item-init : goal.loop-item-init
loop-item-init c =
    let all = c.into_iter-item-iterator.ensures.into_iter_gives.0 in
    record {
      ready = subst (λ (xs : List LogItem). IsReadyFor c.args.self.now (tagged_items place_of xs)) (sym all) (ready_for place_of c.args.self.now c.args.items.items c.requires);
      shows = λ g. ap (λ (xs : List LogItem). all_shown c.args.file (shown_of c.args.self.now) (tagged_items place_of xs) g) all;
      counting = λ g. ap (λ (xs : List LogItem). counts_at_end (counts c.args.self.now g) (of_group g (tagged_items place_of xs))) all;
      promises = λ g. ap (λ (xs : List LogItem). all_kept (promise_of c.args.self.now g) (of_group g (tagged_items place_of xs))) all;
      tables = λ g. refl;
    }

pub apply_unless_mark-requires-clause-table : goal.apply_unless_mark-requires-clause-table
apply_unless_mark-requires-clause-table c = λ plain.
    first_has c.args.file c.loop-item.self c.loop-item.self c.in-Some.item _ plain
    (subst (λ (xs : List LogItem). IsReadyFor c.loop-item.self (tagged_items place_of xs)) c.in-Some.ensures.steps.0 c.loop-item.invariant.ready)

pub apply_unless_mark-requires-clause-room : goal.apply_unless_mark-requires-clause-room
apply_unless_mark-requires-clause-room c = λ plain.
    first_takes c.args.file c.loop-item.self c.loop-item.self c.in-Some.item _ plain
    (subst (λ (xs : List LogItem). IsReadyFor c.loop-item.self (tagged_items place_of xs)) c.in-Some.ensures.steps.0 c.loop-item.invariant.ready)

pub loop-item-preserved : goal.loop-item-preserved
loop-item-preserved c =
    let m = c.loop-item.self in
    let k = c.apply_unless_mark.new.self in
    let x = c.in-Some.item in
    let xs = into_iter_items c.next.new.self in
    let e = c.apply_unless_mark.ensures in
    let so_far = c.loop-item.invariant in
    let is = c.in-Some.ensures.steps.0 in
    record {
      ready = ready_on c.args.file m k x xs e.mark e.applied (subst (λ (ys : List LogItem). IsReadyFor m (tagged_items place_of ys)) is so_far.ready);
      shows = λ g.
          shown_on c.args.file m k x xs e.mark e.applied g ∙ sym (ap (λ (ys : List LogItem). all_shown c.args.file (shown_of m) (tagged_items place_of ys) g) is)
          ∙ so_far.shows g;
      counting = λ g.
          counts_on c.args.file m k x xs e.mark e.applied g ∙ sym (ap (λ (ys : List LogItem). counts_at_end (counts m g) (of_group g (tagged_items place_of ys))) is)
          ∙ so_far.counting g;
      promises = λ g.
          promises_on c.args.file m k x xs e.mark e.applied g ∙ sym (ap (λ (ys : List LogItem). all_kept (promise_of m g) (of_group g (tagged_items place_of ys))) is)
          ∙ so_far.promises g;
      tables = λ g. tables_on c.args.file m k x xs e.mark e.applied g ∙ so_far.tables g;
    }
