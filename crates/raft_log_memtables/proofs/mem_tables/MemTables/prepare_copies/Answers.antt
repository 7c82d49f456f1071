use Rattle.std.proofs.Common.{◌≡◌, ℕ, true, false, ◌∙◌, rules, sym, take}
use Rattle.raft_log_record_items.specs.declared.entry.EntryIndex.{EntryIndex}
use Rattle.raft_log_record_frames.specs.Marking.{has_mark_key}
use Rattle.raft_log_record_frames.specs.Meaning.{tagged, tagged_items}
use Rattle.raft_log_memtables.proofs.Items.{mentions_more, none_of_first, tagged_more}
use Rattle.raft_log_memtables.proofs.Moved.{promises_more, rest_same, rests_moving, still_promised}
use Rattle.raft_log_memtables.proofs.Ready.{first_of, on_err_all, others_more}
use Rattle.raft_log_memtables.proofs.mem_tables.MemTables.prepare_copies.Goals as goal
use Rattle.raft_log_memtables.proofs.mem_tables.MemTables.prepare_copies.Goals.{then-not-is_mark+in_ok-prepare_copy, else-not-is_mark}

pub returns-in_err-prepare_copy-clause-err : goal.returns-in_err-prepare_copy-clause-err
returns-in_err-prepare_copy-clause-err c =
    on_err_all c.from_residual.result (λ g h. c.in_err-prepare_copy.ensures.err g ∙ c.loop-item.invariant.others g (none_of_first g c.args.items.now c.loop-item.item-index h))

pub returns-in_err-prepare_copy-clause-rest : goal.returns-in_err-prepare_copy-clause-rest
returns-in_err-prepare_copy-clause-rest c = λ rest.
    let so_far = c.loop-item.invariant in
    rest_same c.loop-item.self c.prepare_copy.new.self c.in_err-prepare_copy.ensures.shows c.in_err-prepare_copy.ensures.err
    (rests_moving c.args.self.now c.loop-item.self (tagged_items (λ e. e) (take c.loop-item.item-index c.args.items.now)) so_far.shows so_far.room rest)

pub loop-item-preserved : goal.loop-item-preserved
loop-item-preserved c =
    let xs = c.args.items.now in
    let i = c.loop-item.item-index in
    let so_far = c.loop-item.invariant in
    let x = c.item-item.result in
    let more : (g : ℕ) → _ = λ g. mentions_more g xs i x x c.loop-item-test.true c.item-item.is in
    elim c.if-not-is_mark.branch [
      | then-not-is_mark+in_ok-prepare_copy w ↦
          let e = w.in_ok-prepare_copy.ensures in
          let plain : false ≡ has_mark_key x = search rules in
          let said = tagged_more {E = EntryIndex} (λ e. e) xs i x x false c.loop-item-test.true c.item-item.is plain in
          rw (w.self-is, said) (record {
            shows = record { shown = λ g. e.shows.shown g ∙ so_far.shows.shown g; counts = λ g. e.shows.counts g ∙ so_far.shows.counts g };
            room = promises_more c.args.self.now c.loop-item.self w.prepare_copy.new.self _ (tagged {E = EntryIndex} (λ e. e) x) so_far.room e.ok;
            others = λ g h. others_more c.args.self.now c.loop-item.self w.prepare_copy.new.self x.raft_group_id g _ e.ok.others (so_far.others g) (sym (more g) ∙ h);
          })
      | else-not-is_mark w ↦
          let said = tagged_more {E = EntryIndex} (λ e. e) xs i x x true c.loop-item-test.true c.item-item.is w.if-not-is_mark.ensures in
          rw (w.self-is, said) (record {
            shows = so_far.shows;
            room = still_promised c.args.self.now c.loop-item.self _ so_far.room;
            others = λ g h. so_far.others g (first_of _ _ (sym (more g) ∙ h));
          })
    ]
